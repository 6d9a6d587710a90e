-- A number in decimal: the text that std prints is the definition's; so is that of a list of numbers. Assumes nothing.
use Prim.Native.Nat.{ℕ, suc, ◌+◌, ◌^◌, ◌≤◌, ◌<◌}
use mathlib.Core.List.{List, [], ◌∷◌, ◌++◌}
use mathlib.Core.Path.{◌≡◌, ap, sym, ◌∙◌}
use native.Mathlib.Omega.{arith}
use lib.ListN.{length, get_or, take}
use Rattle.std.proofs.Common.{rules}
use Rattle.std.specs.Fmt.{decimal as printed}
use Rattle.std.proofs.lemmas.Fmt.{decimal_from_appends, length-decimal-le_succ}
use Rattle.std.proofs.lemmas.List.{take_more, flat_map_more}
use Rattle.tillsparrow_streams.specs.Lines.{digits_in, decimal}
use Rattle.tillsparrow_streams.specs.Numbers.{numbered, numbers_text}

pub decimal_is : (n : ℕ) → n < 2 ^ 64 → printed n ≡ decimal n
unfolding digits_in
decimal_is n h =
    let short : length (printed n) ≤ suc n = omega (arith, length-decimal-le_succ n h) in
    sym (decimal_from_appends digits_in (search rules) (suc n) n h short)

-- one number more
pub numbers_more : (l : List ℕ) (i : ℕ) → i < length l → get_or l i 0 < 2 ^ 64
    → numbers_text (take i l) ++ 32 ∷ printed (get_or l i 0) ≡ numbers_text (take (i + 1) l)
numbers_more l i h small =
    ap (λ d. numbers_text (take i l) ++ 32 ∷ d) (decimal_is (get_or l i 0) small)
    ∙ flat_map_more numbered [] (take i l) (get_or l i 0)
    ∙ sym (ap numbers_text (take_more l i 0 h))
