-- The numbers that are gathered from a record stand for the plan of the rules.
use mathlib.Core.List.{List}
use mathlib.Core.Path.{◌≡◌, refl, sym, ◌∙◌, ap, subst⁻¹}
use mathlib.Core.Bool.{Bool, true, false, cond}
use Prim.Native.Nat.{ℕ, zero, suc, ◌+◌, ◌-◌, ◌*◌, ◌/◌, ◌%◌, ◌^◌, ◌<◌, ◌≤◌}
use native.Mathlib.Nat.{pow-le-pow_right, mul-le-mul, not-suc-le-zero, le_of_suc-le-suc, pow-suc, pow-succ', div-one, div-div-eq-div-mul}
use native.Mathlib.Omega.{arith}
use lib.Dec.{T, leb, ltb, leb→le}
use lib.ListN.{length, get_or, take, drop}
use borrow.Author.Tests.{le-leb, lt-leb, lt-ltb, le-ltb}
use Rattle.std.specs.Prelude.{Some, None}
use Rattle.reading.specs.declared.Frame.{Frame}
use Rattle.reading.specs.declared.Mcu.{Mcu}
use Rattle.reading.specs.declared.Record.{Record}
use Rattle.reading.specs.Tests.{◌and◌}
use Rattle.reading.specs.Huffman.{table_at}
use Rattle.reading.specs.Layout.{areas, per_mcu, channel_in}
use Rattle.reading.specs.Tables.{factors_from, shape_of, quant_at, dc_at, ac_at, quantizers_of}
use Rattle.reading.specs.Scan.{plan_of, broke}
use Rattle.reading.specs.Code.Mcus.{sampled, measured}
use Rattle.reading.specs.Code.Scans.{nowhere, readable, scan_of}
use Rattle.reading.proofs.Plain.{and_left, and_right}
use Rattle.reading.proofs.Sampling.{Sampling, sampled_says, measured_none, measured_some, measured_mcu, blocks_least, channel_below, channels_are}
use Rattle.jpeg_scan_plan.specs.declared.Plan.{Plan}
use Rattle.jpeg_scan_plan.specs.Plans.{four, digits, plan_in, plan_for, chan, Stands, Quantizes}

-- ---- a readable record

pub record Readable (s : List ℕ) (r : Record) : Type 0 where
  pub inside : r.start ≤ length s
  pub fine : sampled r.frame ≡ true
  pub sampling : Sampling r.frame

pub readable_says : (s : List ℕ) (r : Record) → readable s r ≡ true → Readable s r
unfolding readable
readable_says s r e = go (sampled r.frame) refl (subst⁻¹ T e tt)
  where
    go : (t : Bool) → sampled r.frame ≡ t → T (leb r.start (length s) and t) → Readable s r
    go true p all =
        record {
          inside = leb→le r.start (length s) (and_left (leb r.start (length s)) true all);
          fine = p;
          sampling = sampled_says r.frame p;
        }
    go false p all = absurd (and_right (leb r.start (length s)) false all)

-- ---- the channel of a block

-- a frame has at most four channels, and a channel has at most 16 blocks in an MCU
pub channels_few : (f : Frame) → sampled f ≡ true → f.channels ≤ 4
channels_few f e = (sampled_says f e).few

pub area_small : (f : Frame) (c : ℕ) → sampled f ≡ true → c < f.channels → get_or f.across c 0 * get_or f.down c 0 ≤ 16
area_small f c e h = let ok = sampled_says f e in mul-le-mul (ok.across c h).1 (ok.down c h).1

-- what was passed of the channels before c, and what is left of the place
module _ (ch : ℕ) (across down : List ℕ) (j : ℕ) where
  abbrev pub Passing : ℕ → ℕ → Type 0
  Passing left c = channel_in (factors_from across down 0 ch) j ≡ c + channel_in (factors_from across down c (ch - c)) left

  module _ (left c : ℕ) (w : Passing left c) where
    abbrev here : ℕ
    here = get_or across c 0 * get_or down c 0

    split : c < ch → channel_in (factors_from across down c (ch - c)) left
        ≡ cond (ltb left here) 0 (suc (channel_in (factors_from across down (suc c) (ch - (c + 1))) (left - here)))
    split h =
        let one_more : ch - c ≡ suc (ch - (c + 1)) = omega arith in
        ap (λ n. channel_in (factors_from across down c n) left) one_more

    pub passing_here : c < ch → left < get_or across c 0 * get_or down c 0 → c ≡ channel_in (factors_from across down 0 ch) j
    passing_here h l =
        let first : channel_in (factors_from across down c (ch - c)) left ≡ 0 = split h ∙ rw (lt-ltb left (get_or across c 0 * get_or down c 0) l) refl in
        omega (arith, w, first)

    pub passing_on : c < ch → get_or across c 0 * get_or down c 0 ≤ left → Passing (left - get_or across c 0 * get_or down c 0) (c + 1)
    passing_on h l =
        let rest : ℕ → ℕ = λ k. channel_in (factors_from across down k (ch - (c + 1))) (left - here) in
        let later : channel_in (factors_from across down c (ch - c)) left ≡ suc (rest (suc c)) = split h ∙ rw (le-ltb left here l) refl in
        let same : rest (suc c) ≡ rest (c + 1) = ap rest (omega arith) in
        omega (arith, w, later, same)

    pub passing_out : ch ≤ c → c ≡ channel_in (factors_from across down 0 ch) j
    passing_out h =
        let none : ch - c ≡ 0 = omega arith in
        let last : channel_in (factors_from across down c (ch - c)) left ≡ 0 = ap (λ n. channel_in (factors_from across down c n) left) none in
        omega (arith, w, last)

pub ruleset passing = (channels_few, area_small, passing_here, passing_on, passing_out)

-- behind a digit stand the others
pub next_digit : (order j : ℕ) → order / 4 ^ suc j ≡ order / 4 / 4 ^ j
next_digit order j = ap (λ k. order / k) (pow-succ' 4 j) ∙ sym (div-div-eq-div-mul order 4 (4 ^ j))

pub later_digit : (order j : ℕ) → order / 4 ^ j / 4 ≡ order / 4 ^ (j + 1)
later_digit order j =
    let next : suc j ≡ j + 1 = omega arith in
    div-div-eq-div-mul order (4 ^ j) 4 ∙ ap (λ k. order / k) (sym (pow-suc 4 j)) ∙ ap (λ k. order / 4 ^ k) next

pub first_digit : (order : ℕ) → order ≡ order / 4 ^ 0
first_digit order = sym (div-one order)

four_at : (f : ℕ → ℕ) (c : ℕ) → c < 4 → f c ≡ get_or (four f) c 0
four_at f zero h = refl
four_at f (suc zero) h = refl
four_at f (suc (suc zero)) h = refl
four_at f (suc (suc (suc zero))) h = refl
four_at f (suc (suc (suc (suc c)))) h = absurd (not-suc-le-zero (le_of_suc-le-suc (le_of_suc-le-suc (le_of_suc-le-suc (le_of_suc-le-suc h)))))

-- ---- the plan

-- the digits of base 4: n of them are below 4^n, and digit j is f j
pub digits_below : (f : ℕ → ℕ) (j n : ℕ) → digits f j n < 4 ^ n
digits_below f j zero = omega arith
digits_below f j (suc n) = omega (arith, digits_below f (suc j) n, pow-suc 4 n)

-- those of an MCU fit 20 bits
pub digits_few : (f : ℕ → ℕ) (j n : ℕ) → n ≤ 10 → digits f j n < 1048576
digits_few f j n h =
    let most : 4 ^ n ≤ 4 ^ 10 = pow-le-pow_right {n = 4} (omega arith) h in
    omega (arith, digits_below f j n, most)

digit_at : (f : ℕ → ℕ) (i n j : ℕ) → j < n → digits f i n / 4 ^ j % 4 ≡ f (i + j) % 4
digit_at f i zero j h = absurd (not-suc-le-zero h)
digit_at f i (suc n) zero h =
    let one : digits f i (suc n) / 4 ^ 0 ≡ digits f i (suc n) = div-one (digits f i (suc n)) in
    let same : f (i + 0) ≡ f i = ap f (omega arith) in
    omega (arith, one, same)
digit_at f i (suc n) (suc j) h =
    let behind : digits f i (suc n) / 4 ≡ digits f (suc i) n = omega arith in
    let same : f (suc i + j) ≡ f (i + suc j) = ap f (omega arith) in
    ap (λ k. k % 4) (next_digit (digits f i (suc n)) j ∙ ap (λ k. k / 4 ^ j) behind) ∙ digit_at f (suc i) n j (omega arith) ∙ ap (λ k. k % 4) same

-- block j of an MCU, in the plan's digits
order_at : (r : Record) → Sampling r.frame → (j : ℕ) → j < areas (shape_of r.frame).factors
    → channel_in (shape_of r.frame).factors j ≡ chan (plan_in r).order j
order_at r ok j h =
    let order : ℕ → ℕ = channel_in (shape_of r.frame).factors in
    let same : order (0 + j) ≡ order j = ap order (omega arith) in
    let is : chan (plan_in r).order j ≡ order (0 + j) % 4 = digit_at order 0 10 j (omega (arith, ok.blocks)) in
    omega (arith, same, is, channel_below (shape_of r.frame).factors j h, channels_are r.frame, ok.few)

stands_in : (s : List ℕ) (r : Record) → Readable s r → Stands (take r.start s) (plan_in r) (plan_of s r)
unfolding per_mcu
stands_in s r a =
    record {
      some = omega (arith, blocks_least r.frame a.sampling, a.sampling.some);
      per_is = refl;
      interval_is = refl;
      channel_is = order_at r a.sampling;
      dc_is = λ c h. ap (table_at (take r.start s)) (four_at (dc_at r) c h);
      ac_is = λ c h. ap (table_at (take r.start s)) (four_at (ac_at r) c h);
    }

-- the quantizers of a record
pub quantizes_in : (s : List ℕ) (r : Record) → Quantizes (take r.start s) (plan_in r) (quantizers_of s r)
quantizes_in s r c h = ap (λ (k : ℕ). take 64 (drop k (take r.start s))) (four_at (quant_at r) c h)

-- where a record has a plan, its numbers stand for the plan of the rules
pub record Ready (s : List ℕ) (r : Record) (n : Plan) : Type 0 where
  pub readable_is : readable s r ≡ true
  pub plan_is : n ≡ plan_in r
  pub inside : n.start ≤ length s
  pub numbers : Stands (take n.start s) n (plan_of s r)
  pub quantizers : Quantizes (take n.start s) n (quantizers_of s r)

module _ (s : List ℕ) (r : Record) where
  -- the tests of the code
  pub plan_long : length s < r.start → None ≡ plan_for s r
  unfolding plan_for readable
  plan_long h = rw (lt-leb r.start (length s) h) refl

  pub plan_unfit : r.start ≤ length s → None ≡ measured r.frame → None ≡ plan_for s r
  unfolding plan_for readable
  plan_unfit h e = rw (le-leb r.start (length s) h, measured_none r.frame e) refl

  module _ {m : Mcu} (e : Some m ≡ measured r.frame) where
    pub sampled_here : sampled r.frame ≡ true
    sampled_here = measured_some r.frame e

    readable_here : r.start ≤ length s → readable s r ≡ true
    unfolding readable
    readable_here h = rw (le-leb r.start (length s) h, sampled_here) refl

    pub plan_gathered :
        r.start ≤ length s
        → {dcs acs quants : List ℕ} {order : ℕ}
        → dcs ≡ four (dc_at r)
        → acs ≡ four (ac_at r)
        → quants ≡ four (quant_at r)
        → order ≡ digits (channel_in (shape_of r.frame).factors) 0 10
        → Some (record {
          start = r.start;
          dcs = dcs;
          acs = acs;
          quants = quants;
          order = order;
          per = m.blocks;
          interval = r.interval;
          blocks = r.blocks;
        })
        ≡ plan_for s r
    unfolding plan_for
    plan_gathered h d a q o =
        let per = ap (λ (k : Mcu). k.blocks) (measured_mcu r.frame e) in
        rw (d, a, q, o, per, readable_here h) refl

  module _ {n : Plan} (e : Some n ≡ plan_for s r) where
    plan_read : (readable s r ≡ true) × (n ≡ plan_in r)
    unfolding plan_for
    plan_read = go (readable s r) refl e
      where
        go : (t : Bool) → readable s r ≡ t → Some n ≡ cond t (Some (plan_in r)) None → (readable s r ≡ true) × (n ≡ plan_in r)
        go true x e = (x, cc)
        go false x e = absurd cc

    pub ready : Ready s r n
    ready =
        let a : Readable s r = readable_says s r plan_read.0 in
        let same : n ≡ plan_in r = plan_read.1 in
        record {
          readable_is = plan_read.0;
          plan_is = same;
          inside = subst⁻¹ (λ (k : Plan). k.start ≤ length s) same a.inside;
          numbers = subst⁻¹ (λ (k : Plan). Stands (take k.start s) k (plan_of s r)) same (stands_in s r a);
          quantizers = subst⁻¹ (λ (k : Plan). Quantizes (take k.start s) k (quantizers_of s r)) same (quantizes_in s r);
        }

  pub unready : None ≡ plan_for s r → scan_of s r ≡ broke nowhere
  unfolding plan_for scan_of
  unready e = go (readable s r) refl e
    where
      go : (t : Bool) → readable s r ≡ t → None ≡ cond t (Some (plan_in r)) None → scan_of s r ≡ broke nowhere
      go true x e = absurd cc
      go false x e = rw x

pub ruleset gathered = (plan_long, plan_unfit, sampled_here, plan_gathered)
