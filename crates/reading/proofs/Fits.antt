-- What a test on a segment's body says once it is passed.
use Prim.Native.Nat.{ℕ, ◌+◌, ◌/◌, ◌%◌, ◌≤◌}
use mathlib.Core.Path.{◌≡◌, subst⁻¹}
use mathlib.Core.Bool.{Bool, true}
use mathlib.Core.List.{List}
use lib.Dec.{T, leb, leb→le}
use lib.ListN.{length}
use Rattle.reading.specs.Tests.{within, apart, all}
use Rattle.reading.specs.Huffman.{sum, codes_fit}
use Rattle.reading.specs.Header.{byte, quantizer_fits, counts_of, symbols_of, listable, table_fits}
use Rattle.reading.proofs.Plain.{and_left, and_right}
pub use Rattle.whole.specs.Tests.{all_at}

pub so : {b : Bool} → b ≡ true → T b
so e = subst⁻¹ T e tt

pub within_known : (lo hi n : ℕ) → T (within lo hi n) → (lo ≤ n) × (n ≤ hi)
within_known lo hi n t = (leb→le lo n (and_left (leb lo n) (leb n hi) t), leb→le n hi (and_right (leb lo n) (leb n hi) t))

module _ (b : List ℕ) where
  pub quantizer_known : T (quantizer_fits b) → (65 ≤ length b) × (byte b 0 ≤ 3)
  quantizer_known t = (leb→le 65 _ (and_left (leb 65 (length b)) _ t), leb→le _ 3 (and_left (leb (byte b 0) 3) _ (and_right (leb 65 (length b)) _ t)))

  pub record TableKnown : Type 0 where
    pub long : 17 ≤ length b
    pub class : byte b 0 / 16 ≤ 1
    pub id : byte b 0 % 16 ≤ 3
    pub some : (1 ≤ sum (counts_of b)) × (sum (counts_of b) ≤ 256)
    pub whole : 17 + sum (counts_of b) ≤ length b
    pub codes : T (codes_fit (counts_of b) 0 0)
    pub alone : T (apart (symbols_of b))
    pub taken : T (all (listable (byte b 0 / 16)) (symbols_of b))

  pub table_known : T (table_fits b) → TableKnown
  table_known t =
      let u = and_right (leb 17 (length b)) _ t in
      let v = and_right (leb (byte b 0 / 16) 1) _ u in
      let w = and_right (leb (byte b 0 % 16) 3) _ v in
      let x = and_right (within 1 256 (sum (counts_of b))) _ w in
      let y = and_right (leb (17 + sum (counts_of b)) (length b)) _ x in
      let z = and_right (codes_fit (counts_of b) 0 0) _ y in
      record {
        long = leb→le 17 _ (and_left (leb 17 (length b)) _ t);
        class = leb→le _ 1 (and_left (leb (byte b 0 / 16) 1) _ u);
        id = leb→le _ 3 (and_left (leb (byte b 0 % 16) 3) _ v);
        some = within_known 1 256 (sum (counts_of b)) (and_left (within 1 256 (sum (counts_of b))) _ w);
        whole = leb→le _ _ (and_left (leb (17 + sum (counts_of b)) (length b)) _ x);
        codes = and_left (codes_fit (counts_of b) 0 0) _ y;
        alone = and_left (apart (symbols_of b)) _ z;
        taken = and_right (apart (symbols_of b)) _ z;
      }
