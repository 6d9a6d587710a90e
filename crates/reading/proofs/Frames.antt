-- What the rules say of the numbers of a frame that was read, and of a header's state.
use Prim.Native.Nat.{ℕ, ◌<◌, ◌≤◌}
use mathlib.Core.Path.{◌≡◌}
use lib.Dec.{T}
use lib.ListN.{get_or, take}
use Rattle.reading.specs.declared.Frame.{Frame}
use Rattle.reading.specs.declared.Header.{Header}
use Rattle.reading.specs.Tests.{apart}
use Rattle.reading.proofs.Sampling.{Sampling}

pub record FrameOk (f : Frame) : Type 0 where
  pub wide : (0 < f.width) × (f.width < 65536)
  pub high : (0 < f.height) × (f.height < 65536)
  -- one to four channels, factors 1 to 4, at most ten blocks in an MCU
  pub sampling : Sampling f
  -- one channel counts as 1 x 1
  pub single : f.channels ≡ 1 → (get_or f.across 0 0 ≡ 1) × (get_or f.down 0 0 ≡ 1)
  pub ids : (c : ℕ) → get_or f.ids c 0 < 256
  pub qids : (c : ℕ) → get_or f.qids c 0 ≤ 3
  -- no two channels have one component id
  pub distinct : T (apart (take f.channels f.ids))

-- where a frame was read, it is such a one
abbrev pub Framed : Header → Type 0
Framed h = 0 < h.frame.channels → FrameOk h.frame

-- a state of the header: its frame, and a restart interval of two bytes
abbrev pub Shaped : Header → Type 0
Shaped h = Framed h × (h.interval < 65536)
