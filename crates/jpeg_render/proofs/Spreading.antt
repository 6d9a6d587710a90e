-- The samples of a channel spread over the pixels of an MCU: of one block across, what holds after j samples, whatever number of times
-- each is written; of as many blocks as the MCU, gathered, 8 of each block; and pixel by pixel of any number of blocks.
use Prim.Native.Nat.{ℕ, ◌+◌, ◌*◌, ◌-◌, ◌/◌, ◌<◌, ◌≤◌}
use mathlib.Core.Path.{◌≡◌, refl, sym, ap, ◌∙◌, subst}
use mathlib.Core.List.{List, []}
use native.Mathlib.Omega.{arith}
use native.Mathlib.Decide.{dec_lt, ℕ_discrete}
use lib.Arith.{digits_div}
use lib.ListN.{get_or, set, length, length-set}
use lib.Seq.{get_or-set_same, get_or-set_other}
use Rattle.jpeg_render_row.specs.Drawn.{written}
use Rattle.jpeg_render_row.proofs.Drawing.{length_written, written_in, written_before}
use Rattle.jpeg_render.specs.Rows.{Spread, Widened, Gathered, LaneFits, luma_at, lane}
use Rattle.jpeg_render.proofs.Lanes.{lane_same, lane_one, lane_most}

pub record SpreadTo (s : List ℕ) (b hs j : ℕ) (u : List ℕ) : Type 0 where
  pub turns : j ≤ 8
  pub size : length u ≡ 32
  pub has : (i : ℕ) → i < hs * j → get_or u i 0 ≡ get_or s (b + i / hs) 0

module _ (s : List ℕ) (b hs : ℕ) where
  pub spread_none : (u : List ℕ) → length u ≡ 32 → SpreadTo s b hs 0 u
  spread_none u e = record { turns = omega arith; size = e; has = λ i h. let z : ⊥ = omega arith in absurd z }

  -- sample j is written `times` times, from hs x j on
  pub spread_next : (j times a : ℕ) (u v : List ℕ) → SpreadTo s b hs j u → j < 8 → hs ≤ times → a ≡ hs * j → a + times ≤ 32
      → v ≡ written (λ _. get_or s (b + j) 0) a times u → SpreadTo s b hs (j + 1) v
  spread_next j times a u v before more enough place room e =
      record { turns = omega arith; size = ap length e ∙ length_written (λ _. x) a times u ∙ before.size; has = λ i h. ap (λ l. get_or l i 0) e ∙ go i h (dec_lt i a) }
    where
      x : ℕ
      x = get_or s (b + j) 0

      go : (i : ℕ) → i < hs * (j + 1) → Dec (i < a) → get_or (written (λ _. x) a times u) i 0 ≡ get_or s (b + i / hs) 0
      go i h (yes l) = written_before (λ _. x) a times u i l ∙ before.has i (omega arith)
      go i h (no l) =
          let here : a + (i - a) ≡ i = omega arith in
          let digits : i ≡ j * hs + (i - a) = omega arith in
          let sample : i / hs ≡ j = ap (λ n. n / hs) digits ∙ digits_div j (omega arith) in
          subst (λ n. get_or (written (λ _. x) a times u) n 0 ≡ x) here (written_in (λ _. x) a times u (i - a) (omega arith) (omega arith))
          ∙ ap (λ n. get_or s (b + n) 0) (sym sample)

  pub spread_all : (j : ℕ) (u : List ℕ) → SpreadTo s b hs j u → 8 ≤ j → Widened s b hs u
  spread_all j u all over i h =
      let e : j ≡ 8 = omega arith in
      all.has i (rw e (omega arith))

-- ---- blocks side by side

-- after b blocks
pub record GatheredTo (s : List ℕ) (a b : ℕ) (u : List ℕ) : Type 0 where
  pub size : length u ≡ 32
  pub has : Gathered s a (8 * b) u

module _ (s : List ℕ) (a : ℕ) where
  pub gathered_none : (u : List ℕ) → length u ≡ 32 → GatheredTo s a 0 u
  gathered_none u e = record { size = e; has = λ i h. let z : ⊥ = omega arith in absurd z }

  -- one block more
  pub gathered_next : (b : ℕ) (u v : List ℕ) → GatheredTo s a b u → b < 4 → v ≡ written (λ j. get_or s (a + 64 * b + j) 0) (8 * b) 8 u
      → GatheredTo s a (b + 1) v
  gathered_next b u v before more e =
      record {
        size = ap length e ∙ length_written f (8 * b) 8 u ∙ before.size;
        has = λ i h. ap (λ l. get_or l i 0) e ∙ go i h (dec_lt i (8 * b));
      }
    where
      f : ℕ → ℕ
      f j = get_or s (a + 64 * b + j) 0

      go : (i : ℕ) → i < 8 * (b + 1) → Dec (i < 8 * b) → get_or (written f (8 * b) 8 u) i 0 ≡ get_or s (luma_at a i) 0
      go i h (yes l) = written_before f (8 * b) 8 u i l ∙ before.has i l
      go i h (no l) =
          let here : 8 * b + (i - 8 * b) ≡ i = omega arith in
          let place : a + 64 * b + (i - 8 * b) ≡ luma_at a i = omega arith in
          subst (λ k. get_or (written f (8 * b) 8 u) k 0 ≡ f (i - 8 * b)) here
          (written_in f (8 * b) 8 u (i - 8 * b) (omega arith) (omega (arith, before.size)))
          ∙ ap (λ k. get_or s k 0) place

  pub gathered_all : (b n : ℕ) (u : List ℕ) → GatheredTo s a b u → n ≤ b → Gathered s a (8 * n) u
  gathered_all b n u all over i h = all.has i (omega arith)

-- ---- any number of blocks across

pub record LanesTo (s : List ℕ) (a own w i : ℕ) (u : List ℕ) : Type 0 where
  pub turns : i ≤ 8 * w
  pub size : length u ≡ 32
  pub has : (j : ℕ) → j < i → get_or u j 0 ≡ get_or s (a + lane own w j) 0

module _ (s : List ℕ) (a own w : ℕ) where
  pub lanes_none : (u : List ℕ) → length u ≡ 32 → LanesTo s a own w 0 u
  lanes_none u e = record { turns = omega arith; size = e; has = λ j h. let z : ⊥ = omega arith in absurd z }

  -- the sample of pixel i
  pub lanes_next : (i x : ℕ) (u : List ℕ) → LanesTo s a own w i u → i < 8 * w → w ≤ 4 → x ≡ get_or s (a + lane own w i) 0
      → LanesTo s a own w (i + 1) (set u i x)
  lanes_next i x u before more most e =
      record { turns = omega arith; size = length-set u i x ∙ before.size; has = λ j h. go j h (ℕ_discrete j i) }
    where
      go : (j : ℕ) → j < i + 1 → Dec (j ≡ i) → get_or (set u i x) j 0 ≡ get_or s (a + lane own w j) 0
      go j h (yes p) = rw p (get_or-set_same u i x 0 (omega (arith, before.size)) ∙ e)
      go j h (no p) = get_or-set_other u i j x 0 (omega arith) ∙ before.has j (omega arith)

  pub lanes_all : (i : ℕ) (u : List ℕ) → LanesTo s a own w i u → 8 * w ≤ i → Spread s a own w u
  lanes_all i u all over j h = all.has j (omega (arith, all.turns))

  -- the two ways that need no division for a pixel
  pub in_gathered : own ≡ w → 1 ≤ w → (i : ℕ) → get_or s (luma_at a i) 0 ≡ get_or s (a + lane own w i) 0
  in_gathered e some i = ap (λ k. get_or s (a + k) 0) (rw (e, lane_same w i (omega arith)) refl)

  pub in_widened : own ≡ 1 → (i : ℕ) → i < 8 * w → get_or s (a + i / w) 0 ≡ get_or s (a + lane own w i) 0
  in_widened e i h = ap (λ k. get_or s (a + k) 0) (rw (e, lane_one w i h) refl)

  module _ (ok : LaneFits s a own w) where
    pub lane_read : (i : ℕ) → i < 8 * w → a + lane own w i < length s
    lane_read i h = omega (arith, lane_most own w i h ok.least, ok.read)

-- ---- some channels

-- the lists of c channels are there
pub record ChannelsTo (s places : List ℕ) (offset : ℕ) (across : List ℕ) (w n c : ℕ) (us : List (List ℕ)) : Type 0 where
  pub many : length us ≡ n
  pub has : (k : ℕ) → k < c → Spread s (get_or places k 0 + offset) (get_or across k 0) w (get_or us k [])

module _ (s places : List ℕ) (offset : ℕ) (across : List ℕ) (w n : ℕ) where
  pub channels_none : (us : List (List ℕ)) → length us ≡ n → ChannelsTo s places offset across w n 0 us
  channels_none us e = record { many = e; has = λ k h. let z : ⊥ = omega arith in absurd z }

  pub channels_next : (c : ℕ) (us : List (List ℕ)) (u : List ℕ) → ChannelsTo s places offset across w n c us → c < n
      → Spread s (get_or places c 0 + offset) (get_or across c 0) w u → ChannelsTo s places offset across w n (c + 1) (set us c u)
  channels_next c us u before more here =
      record { many = length-set us c u ∙ before.many; has = λ k h. go k h (ℕ_discrete k c) }
    where
      go : (k : ℕ) → k < c + 1 → Dec (k ≡ c) → Spread s (get_or places k 0 + offset) (get_or across k 0) w (get_or (set us c u) k [])
      go k h (yes p) = rw (p, get_or-set_same us c u [] (omega (arith, before.many))) here
      go k h (no p) = rw (get_or-set_other us c k u [] (omega arith)) (before.has k (omega arith))

  pub channels_all : (c : ℕ) (us : List (List ℕ)) → ChannelsTo s places offset across w n c us → n ≤ c
      → (k : ℕ) → k < n → Spread s (get_or places k 0 + offset) (get_or across k 0) w (get_or us k [])
  channels_all c us all over k h = all.has k (omega arith)
