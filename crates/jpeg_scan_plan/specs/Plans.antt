-- The numbers that a scan is read by, and what they stand for in the rules.
use Rattle.std.specs.Prelude.{◌≡◌, List, [], ◌∷◌, cond, ℕ, zero, suc, ◌+◌, ◌*◌, ◌/◌, ◌%◌, ◌^◌, ◌<◌, get_or, take, drop, Option, Some, None}
use Rattle.reading.specs.declared.Record.{Record}
use Rattle.reading.specs.Huffman.{table_at}
use Rattle.reading.specs.Layout.{areas, per_mcu, channel_in}
use Rattle.reading.specs.Scan as scan
use Rattle.reading.specs.Code.Scans.{readable}
use Rattle.reading.specs.Tables.{shape_of, quant_at, dc_at, ac_at}
use Rattle.jpeg_scan_plan.specs.declared.Plan.{Plan}

abbrev pub four : (ℕ → ℕ) → List ℕ
four f = f 0 ∷ f 1 ∷ f 2 ∷ f 3 ∷ []

-- f j, f (j + 1), .., n of them, as digits of base 4, the first one last
abbrev pub digits : (ℕ → ℕ) → ℕ → ℕ → ℕ
digits f j zero = 0
digits f j (suc n) = 4 * digits f (suc j) n + f j % 4

abbrev pub plan_in : Record → Plan
plan_in r =
    record {
      start = r.start;
      dcs = four (dc_at r);
      acs = four (ac_at r);
      quants = four (quant_at r);
      order = digits (channel_in (shape_of r.frame).factors) 0 10;
      per = areas (shape_of r.frame).factors;
      interval = r.interval;
      blocks = r.blocks;
    }

-- the plan of a record's scan; none where the record has numbers by which no scan can be read
unfoldable pub plan_for : List ℕ → Record → Option Plan
unfolding readable
plan_for s r = cond (readable s r) (Some (plan_in r)) None

-- the channel of block j of an MCU, by a plan's digits
abbrev pub chan : ℕ → ℕ → ℕ
chan order j = order / 4 ^ j % 4

-- the numbers of a plan, with tables in the bytes t, stand for a plan of the rules (`stands`: those of a record's plan do)
pub record Stands (t : List ℕ) (n : Plan) (p : scan.Plan) : Type 0 where
  pub some : 0 < n.per
  pub per_is : per_mcu p.shape ≡ n.per
  pub interval_is : p.interval ≡ n.interval
  pub channel_is : (j : ℕ) → j < n.per → channel_in p.shape.factors j ≡ chan n.order j
  pub dc_is : (c : ℕ) → c < 4 → (p.channels c).dc ≡ table_at t (get_or n.dcs c 0)
  pub ac_is : (c : ℕ) → c < 4 → (p.channels c).ac ≡ table_at t (get_or n.acs c 0)

-- its places of quantizers, in the bytes t, stand for the quantizer of each channel
abbrev pub Quantizes : List ℕ → Plan → (ℕ → List ℕ) → Type 0
Quantizes t n quant = (c : ℕ) → c < 4 → quant c ≡ take 64 (drop (get_or n.quants c 0) t)
