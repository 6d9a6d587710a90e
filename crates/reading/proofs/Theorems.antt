-- What is shown of the calls: the page to open first. Each statement has its names on a line, then a premise a line, and its conclusion last;
-- the words in it that are not of a call (`ReadsAs`, `Enough`, `Priced` ..) are explained in specs/Words, and those of a file as a
-- whole (`settled_in`, `coefficients_in` ..) in specs/Files. The proofs stand in the modules that are named behind each.
use Prim.Native.Nat.{ℕ, ◌+◌, ◌*◌, ◌/◌, ◌<◌, ◌≤◌}
use mathlib.Core.Path.{◌≡◌, sym, ap, ◌∙◌}
use mathlib.Core.Bool.{Bool, true, false}
use mathlib.Core.List.{List}
use mathlib.Core.Logic.{◌↔◌}
use mathlib.Core.Option.{none, some}
use lib.Dec.{T}
use lib.IntN.{ℤ}
use lib.ListN.{get_or, length, take, drop}
use Rattle.reading.specs.declared.Bits.{Bits}
use Rattle.reading.specs.declared.Budget.{Budget}
use Rattle.reading.specs.declared.Decoding.{Decoding}
use Rattle.reading.specs.declared.Frame.{Frame}
use Rattle.reading.specs.declared.Inspection.{Inspection}
use Rattle.reading.specs.declared.Limits.{Limits}
use Rattle.reading.specs.declared.Part.{Part}
use Rattle.reading.specs.declared.Presence.{Presence}
use Rattle.reading.specs.declared.Record.{Record}
use Rattle.reading.specs.declared.Refusal.{Refusal}
use Rattle.reading.specs.declared.Refusal.TheVariants.{OverBudget, ShortRoom, NotItsRecord, NoEndCode, Scan}
use Rattle.reading.specs.declared.Settling.{Settling}
use Rattle.std.specs.declared.result.Result.TheVariants.{Ok, Err}
use Rattle.reading.specs.Tests.{over}
use Rattle.reading.specs.Transform.{sample_of, samples}
use Rattle.reading.specs.Bits.{fulls}
use Rattle.reading.specs.Scan.{plan_of, whole, levels}
use Rattle.reading.specs.Settled.{settled_scan}
use Rattle.reading.specs.Huffman.{table_at}
use Rattle.reading.specs.Block.{dc_taken, ac_taken}
use Rattle.reading.specs.Layout.{channel_of}
use Rattle.reading.specs.Tables.{shape_of}
use Rattle.reading.specs.Header.{done, byte, listable, table_fits, header}
use Rattle.reading.specs.Reading.{accepted, refused, reading, samples_of, picture_of}
use Rattle.reading.specs.Calls.{header_price, inspect, Decoded, decode, Rewritten, settle}
use Rattle.reading.specs.Comments.{comments, comment_part, comment, has_comment}
use Rattle.reading.specs.Prices.{file_price, decode_price}
use Rattle.reading.specs.Files.{head_in, coefficients_in, samples_in, picture_in, settled_in, lacks_end_in}
use Rattle.reading.specs.Words.{Not, AllBytes, Careful, double_sum, Sampled, OldLayout, ReadsAs, reread, SettlesTo, cut_at, Enough, Roomy, InspectRefuses, Inspects, Priced, Alike}
use Rattle.reading.proofs.HeaderEnds.{finished, header_ends}
use Rattle.reading.proofs.Choice.{reading_choice}
use Rattle.reading.proofs.Judgement as J
use Rattle.reading.proofs.Refusals as R
use Rattle.reading.proofs.CutFiles as T
use Rattle.reading.proofs.Decodings as D
use Rattle.reading.proofs.WholeFiles as F
use Rattle.reading.proofs.SettledCalls as C
use Rattle.reading.proofs.Prices as P
use Rattle.reading.proofs.SamplePlaces as A
use Rattle.reading.proofs.DoubleSum as S
use Rattle.reading.proofs.SettledLength as L
use Rattle.reading.proofs.Comments as N
use Rattle.reading.proofs.OneCode as O

-- ---- Every call: one answer, at its price

-- A contract is an equation with what the definition answers, so two outcomes that fit it are equal. Of each call, in the form of its
-- contract:
pub only_one :
    {A : Type 0} {answer a b : A}
    → a ≡ answer
    → b ≡ answer
    → a ≡ b
only_one p q = p ∙ sym q

pub inspect_only_one :
    (s : List ℕ) (colour : Bool) (l : Limits) (budget : Budget) (a b : Inspection)
    → a ≡ inspect s colour l budget
    → b ≡ inspect s colour l budget
    → a ≡ b
inspect_only_one s colour l budget a b = only_one

-- answer, output and scratch
pub decode_only_one :
    (s : List ℕ) (r : Record) (out scratch : List ℕ) (budget : Budget)
    (a b : Decoding) (o p c d : List ℕ)
    → record { answer = a; output = o; scratch = c } ≡ decode s r out scratch budget
    → record { answer = b; output = p; scratch = d } ≡ decode s r out scratch budget
    → (a ≡ b) × (o ≡ p) × (c ≡ d)
decode_only_one s r out scratch budget a b o p c d x y =
    let e : ◌≡◌ {A = Decoded} (record { answer = a; output = o; scratch = c }) (record { answer = b; output = p; scratch = d }) = only_one x y in
    (ap (λ (w : Decoded). w.answer) e, ap (λ (w : Decoded). w.output) e, ap (λ (w : Decoded). w.scratch) e)

-- answer and output
pub settle_only_one :
    (s : List ℕ) (l : Limits) (budget : Budget) (out : List ℕ)
    (a b : Settling) (o p : List ℕ)
    → record { answer = a; output = o } ≡ settle s l budget out
    → record { answer = b; output = p } ≡ settle s l budget out
    → (a ≡ b) × (o ≡ p)
settle_only_one s l budget out a b o p x y =
    let e : ◌≡◌ {A = Rewritten} (record { answer = a; output = o }) (record { answer = b; output = p }) = only_one x y in
    (ap (λ (w : Rewritten). w.answer) e, ap (λ (w : Rewritten). w.output) e)

-- The bytes of the part that is returned, not its place: two parts of a file can hold the same bytes. `comment_part` fixes the place
pub comment_only_one :
    (s : List ℕ) (i : ℕ) (a b : List ℕ)
    → a ≡ comment s i
    → b ≡ comment s i
    → a ≡ b
comment_only_one s i a b = only_one

pub part_only_one :
    (s : List ℕ) (i : ℕ) (a b : Part)
    → a ≡ comment_part s i
    → b ≡ comment_part s i
    → a ≡ b
part_only_one s i a b = only_one

pub has_comment_only_one :
    (s : List ℕ) (i : ℕ) (l : Limits) (budget : Budget) (a b : Presence)
    → a ≡ has_comment s i l budget
    → b ≡ has_comment s i l budget
    → a ≡ b
has_comment_only_one s i l budget a b = only_one

-- Every answer takes what is listed for it in specs/Prices, and what is taken and what is left are the budget (`Prices`).

pub inspect_price :
    (s : List ℕ) (colour : Bool) (l : Limits) (budget : Budget)
    → Priced (file_price s) budget (inspect s colour l budget).verdict (inspect s colour l budget).budget
inspect_price s colour l budget = P.inspect_price s colour l budget

pub settle_price :
    (s : List ℕ) (l : Limits) (budget : Budget) (out : List ℕ)
    → Priced (file_price s) budget (settle s l budget out).answer.verdict (settle s l budget out).answer.budget
settle_price s l budget out = P.settle_price s l budget out

pub decode_price_lem :
    (s : List ℕ) (r : Record) (out scratch : List ℕ) (budget : Budget)
    → Priced (decode_price s r) budget (decode s r out scratch budget).answer.verdict (decode s r out scratch budget).answer.budget
decode_price_lem s r out scratch budget = P.decode_price_lem s r out scratch budget

pub has_comment_price :
    (s : List ℕ) (i : ℕ) (l : Limits) (budget : Budget)
    → Priced (file_price s) budget (has_comment s i l budget).verdict (has_comment s i l budget).budget
has_comment_price s i l budget = P.comment_price s l budget i

-- the header's step allowance is never used up, so it needs no number (`HeaderEnds`)
pub header_finishes :
    (s : List ℕ) (colour : Bool)
    → T (finished (header s colour))
header_finishes s colour = header_ends s colour

-- ---- Huffman tables (`OneCode`). `Careful`: every symbol has at most one code, the one that settling writes, and what has one a block takes

-- every table that is read, used or not: `b` is what is left of its segment, with the table in front. The header goes on only where it fits
pub table_careful :
    (b : List ℕ)
    → T (table_fits b)
    → Careful (listable (byte b 0 / 16)) (table_at b 1)
table_careful b t = O.read_careful b t

-- the two tables by which block k of a file is read
pub tables_careful :
    (s : List ℕ) (colour : Bool) (r : Record) (k : ℕ)
    → header s colour ≡ done r
    → Careful dc_taken ((plan_of s r).channels (channel_of (shape_of r.frame) k)).dc × Careful ac_taken ((plan_of s r).channels (channel_of (shape_of r.frame) k)).ac
tables_careful s colour r k e = O.careful_channel s colour r e k

-- ---- Inspect (`Judgement`, `Refusals`)

-- inspect accepts with a record exactly when the file's reading does, and limits and budget are enough for it
pub inspect_accepts :
    (s : List ℕ) (colour : Bool) (l : Limits) (budget : Budget) (r : Record)
    → ((inspect s colour l budget).verdict ≡ Ok tt) × ((inspect s colour l budget).found ≡ r)
    ↔ ReadsAs s colour r × Enough s r l budget
inspect_accepts s colour l budget r = J.inspect_accepts s colour l budget r

-- it refuses by a rule exactly when every rule before it was passed and this one was not
pub inspect_refuses :
    (s : List ℕ) (colour : Bool) (l : Limits) (budget : Budget) (x : Refusal)
    → (inspect s colour l budget).verdict ≡ Err x
    ↔ InspectRefuses s colour l budget x
inspect_refuses s colour l budget x = R.inspect_refuses s colour l budget x

-- the colour choice changes neither its verdict nor what is left, and of a reading the record's own field for it alone
pub inspect_choice :
    (s : List ℕ) (l : Limits) (budget : Budget) (c d : Bool)
    → ((inspect s d l budget).verdict ≡ (inspect s c l budget).verdict) × ((inspect s d l budget).budget ≡ (inspect s c l budget).budget)
inspect_choice s l budget c d = P.inspect_choice s l budget c d

pub colour_choice :
    (s : List ℕ) (c d : Bool)
    → reading s c ≡ reread c (reading s d)
colour_choice s c d = reading_choice c d s

-- ---- An accepted file, cut behind its header: support can tell a cut upload (`CutFiles`)

-- A prefix of an accepted file that ends at a place c is refused at the first block whose restart or bits take a byte, or the 0 behind a 255,
-- at or behind c: 4 in the restart, else 3, naming that block; if there is no such block, 4 and the block count. (`cut_at`)
pub cut_file :
    (s : List ℕ) (colour : Bool) (r : Record) (ls : List (List ℤ)) (c : ℕ)
    → reading s colour ≡ accepted r ls
    → r.start ≤ c
    → c < length s
    → reading (take c s) colour ≡ refused (Scan (cut_at s r c))
cut_file s colour r ls c e from less = T.cut_file s c colour r ls e from less

-- what inspect accepts, it refuses so when it is cut
pub cut_inspects :
    (s : List ℕ) (colour : Bool) (l : Limits) (budget : Budget) (c : ℕ)
    → (inspect s colour l budget).verdict ≡ Ok tt
    → (inspect s colour l budget).found.start ≤ c
    → c < length s
    → (inspect (take c s) colour l budget).verdict ≡ Err (Scan (cut_at s (inspect s colour l budget).found c))
cut_inspects s colour l budget c e from less = R.cut_inspects s colour l budget c e from less

-- ---- Decode, of any bytes and any record (`Decodings`)

module _ (s : List ℕ) (r : Record) (out scratch : List ℕ) (budget : Budget) where
  -- decode accepts exactly when room and budget suffice and the reading with the record's colour choice accepts with this very record
  pub decode_accepts :
      (decode s r out scratch budget).answer.verdict ≡ Ok tt
      ↔ Roomy r out scratch × (header_price s + r.work ≤ budget.left) × ReadsAs s r.colour r
  decode_accepts = D.decode_accepts s r out scratch budget

  -- 7 exactly when a buffer is too short by the record
  pub decode_seven :
      (decode s r out scratch budget).answer.verdict ≡ Err ShortRoom
      ↔ Not (Roomy r out scratch)
  decode_seven = D.decode_seven s r out scratch budget

  -- 2 exactly when there is room and the budget is below the price
  pub decode_two :
      (decode s r out scratch budget).answer.verdict ≡ Err OverBudget
      ↔ Roomy r out scratch × (budget.left < header_price s + r.work)
  decode_two = D.decode_two s r out scratch budget

  -- 8 exactly when both suffice and the record is not that of these bytes
  pub decode_eight :
      (decode s r out scratch budget).answer.verdict ≡ Err NotItsRecord
      ↔ Roomy r out scratch × (header_price s + r.work ≤ budget.left) × Not (ReadsAs s r.colour r)
  decode_eight = D.decode_eight s r out scratch budget

  -- where it accepts, the block samples and the picture are the reading's, over the old buffers
  pub decode_draws :
      (ls : List (List ℤ))
      → reading s r.colour ≡ accepted r ls
      → (decode s r out scratch budget).answer.verdict ≡ Ok tt
      → ((decode s r out scratch budget).scratch ≡ over (samples_of s r ls) scratch)
      × ((decode s r out scratch budget).output ≡ over (picture_of r (samples_of s r ls)) out)
  decode_draws ls e v = D.decode_draws s r out scratch budget ls e v

  -- a refusal leaves both as they came
  pub decode_leaves :
      (x : Refusal)
      → (decode s r out scratch budget).answer.verdict ≡ Err x
      → ((decode s r out scratch budget).output ≡ out) × ((decode s r out scratch budget).scratch ≡ scratch)
  decode_leaves x e = let d = D.decode_refused s r out scratch budget x e in (d.output, d.scratch_is)

-- what inspect accepts, decode accepts with the record that inspect gave, where room and budget suffice
pub inspected_decodes :
    (s : List ℕ) (colour : Bool) (l : Limits) (budget : Budget) (r : Record) (out scratch : List ℕ) (budget' : Budget)
    → ((inspect s colour l budget).verdict ≡ Ok tt) × ((inspect s colour l budget).found ≡ r)
    → Roomy r out scratch
    → header_price s + r.work ≤ budget'.left
    → (decode s r out scratch budget').answer.verdict ≡ Ok tt
inspected_decodes s colour l budget r out scratch budget' v room paid =
    D.inspected_decodes s colour l budget r out scratch budget' v room paid

-- ---- The layout (`SamplePlaces`). `Sampled`: hs x vs in the first channel and 1 x 1 in the others; `OldLayout`: the blocks and the places then

-- the layout is stated over the factors of each channel; where only the first channel has factors of its own, it is the old one
pub old_layout :
    (f : Frame) (hs vs : ℕ)
    → Sampled f hs vs
    → OldLayout f hs vs
old_layout = A.old_layout

-- ---- Samples (`DoubleSum`)

-- the sample at row y and column x of a block is that of the double sum over its 64 coefficients
pub sample_at :
    (c : List ℤ) (y x : ℕ)
    → y < 8
    → x < 8
    → get_or (samples c) (8 * y + x) 0 ≡ sample_of (double_sum c y x)
sample_at c y x hy hx = S.sample_at c y x hy hx

-- ---- One picture, one scan: of every file, limits, budget and room aside (`WholeFiles`)

pub record DemandThree (s : List ℕ) : Type 0 where
  -- the settled file is accepted again, by either colour choice, with the same record and the same levels
  pub accepted_again :
      (t : List ℕ) (colour : Bool)
      → SettlesTo s t
      → reading t colour ≡ reading s colour
  -- the same coefficients, so the same samples and the same picture
  pub same_coefficients :
      (t : List ℕ)
      → SettlesTo s t
      → coefficients_in t ≡ coefficients_in s
  pub same_samples :
      (t : List ℕ)
      → SettlesTo s t
      → samples_in t ≡ samples_in s
  pub same_picture :
      (t : List ℕ) (colour : Bool)
      → SettlesTo s t
      → picture_in t colour ≡ picture_in s colour
  -- settling it again changes nothing
  pub settles_to_itself :
      (t : List ℕ)
      → SettlesTo s t
      → SettlesTo t t
  -- its scan has no fill: from its first coded byte on no two 255 stand in a row
  pub no_fill :
      (t : List ℕ) (r : Record) (i : ℕ)
      → SettlesTo s t
      → ReadsAs t false r
      → r.start ≤ i
      → fulls (drop i t) ≤ 1
  -- of two files with one head the settled files are equal exactly when the coefficients are
  pub equal_exactly_when :
      (s' t t' : List ℕ)
      → SettlesTo s t
      → SettlesTo s' t'
      → head_in s ≡ head_in s'
      → t ≡ t' ↔ coefficients_in s ≡ coefficients_in s'
  -- an accepted file has no settled file exactly when some block ends in a zero and its table has no end-of-block code
  pub want_of_a_code :
      (r : Record)
      → AllBytes s
      → ReadsAs s false r
      → settled_in s ≡ none ↔ T (lacks_end_in s)

pub demand_three : (s : List ℕ) → DemandThree s
demand_three s =
    record {
      accepted_again = λ t colour h. F.reads_alike s t h colour;
      same_coefficients = F.coefficients_alike s;
      same_samples = F.samples_alike s;
      same_picture = λ t colour h. F.picture_alike s t h colour;
      settles_to_itself = F.settles_again s;
      no_fill = λ t r i h k a. F.no_fill t t (F.settles_again s t h) r k.0 k.1 i a;
      equal_exactly_when = λ s' t t' h h' e. F.equal_so s s' t t' h h' e;
      want_of_a_code = λ r y k. F.want_so s y r k.0 k.1;
    }

-- ---- Settle (`SettledCalls`). `Inspects`: inspect would accept, by either colour choice

module _ (s : List ℕ) (colour : Bool) (l : Limits) (budget : Budget) (out : List ℕ) where
  by_choice : {A B : Type 0} → A ↔ Inspects s false l budget × B → A ↔ Inspects s colour l budget × B
  by_choice w = (
    λ a. (R.accepts_alike s l budget false colour (w.0 a).0, (w.0 a).1),
    λ k. w.1 (R.accepts_alike s l budget colour false k.0, k.1),
  )

  -- settle accepts exactly when inspect would, and there is a settled file and room for it
  pub settle_accepts :
      (settle s l budget out).answer.verdict ≡ Ok tt
      ↔ Inspects s colour l budget × ((t : List ℕ) × SettlesTo s t × (length t ≤ length out))
  settle_accepts = by_choice (C.settle_accepts s l budget out)

  -- it then returns that file's length and writes it over the buffer
  pub settle_writes :
      (t : List ℕ)
      → SettlesTo s t
      → (settle s l budget out).answer.verdict ≡ Ok tt
      → ((settle s l budget out).answer.length ≡ length t) × ((settle s l budget out).output ≡ over t out)
  settle_writes = C.settle_writes s l budget out

  -- 7 with the length n exactly when inspect would accept, the settled file has n bytes, and there is less room
  pub settle_seven :
      (n : ℕ)
      → ((settle s l budget out).answer.verdict ≡ Err ShortRoom) × ((settle s l budget out).answer.length ≡ n)
      ↔ Inspects s colour l budget × ((t : List ℕ) × SettlesTo s t × (length t ≡ n) × (length out < n))
  settle_seven n = by_choice (C.settle_seven s l budget out n)

  -- 9 exactly when inspect would accept and some block lacks its end code, whatever the room
  pub settle_nine :
      AllBytes s
      → (settle s l budget out).answer.verdict ≡ Err NoEndCode
      ↔ Inspects s colour l budget × T (lacks_end_in s)
  settle_nine y = by_choice (C.settle_nine s l budget out y)

  -- every other refusal is inspect's, with what inspect leaves
  pub settle_refuses :
      (x : Refusal)
      → (inspect s colour l budget).verdict ≡ Err x
      → ((settle s l budget out).answer.verdict ≡ Err x) × ((settle s l budget out).answer.budget ≡ (inspect s colour l budget).budget)
  settle_refuses x e =
      let same = P.inspect_choice s l budget colour false in
      let w = C.settle_as_inspect s l budget out x (same.0 ∙ e) in
      (ap (λ (w : Rewritten). w.answer.verdict) w, ap (λ (w : Rewritten). w.answer.budget) w ∙ same.1)

  -- a refusal leaves the buffer as it came, and names a length with 7 alone
  pub settle_leaves :
      (x : Refusal)
      → (settle s l budget out).answer.verdict ≡ Err x
      → ((settle s l budget out).output ≡ out) × (Not (x ≡ ShortRoom) → (settle s l budget out).answer.length ≡ 0)
  settle_leaves = C.settle_leaves s l budget out

-- the settled file decodes with the file's own record to the same samples and the same picture
pub settled_decodes :
    (s t : List ℕ) (r : Record) (out scratch : List ℕ) (budget budget' : Budget)
    → SettlesTo s t
    → (decode s r out scratch budget).answer.verdict ≡ Ok tt
    → header_price t + r.work ≤ budget'.left
    → Alike (decode s r out scratch budget) (decode t r out scratch budget')
settled_decodes s t r out scratch budget budget' h v p = C.settled_decodes s t h r out scratch budget budget' v p

-- a settled scan has at most twice the bytes of the scan that was read, and 4 bytes a block (`SettledLength`)
pub settled_short :
    (s : List ℕ) (r : Record) (ls : List (List ℤ)) (b : Bits) (t : List ℕ)
    → AllBytes s
    → levels s r ≡ whole ls b
    → settled_scan (plan_of s r) ls ≡ some t
    → length t + 2 * r.start ≤ 2 * length s + 4 * r.blocks
settled_short s r ls b t h e f = L.settled_short s r ls b t h e f

-- ---- Comments (`Comments`)

-- the text of a comment lies within the file
pub comment_within :
    (s : List ℕ) (i : ℕ)
    → (comment_part s i).at + (comment_part s i).length ≤ length s
comment_within s i = N.comment_within s i

-- has_comment answers inspect's verdict and leaves what inspect leaves; the comment is there exactly when inspect accepts and i is below their count
pub has_comment_inspects :
    (s : List ℕ) (i : ℕ) (l : Limits) (budget : Budget)
    → ((has_comment s i l budget).verdict ≡ (inspect s false l budget).verdict) × ((has_comment s i l budget).budget ≡ (inspect s false l budget).budget)
has_comment_inspects s i l budget = N.has_comment_inspects s i l budget

pub has_comment_there :
    (s : List ℕ) (i : ℕ) (l : Limits) (budget : Budget)
    → (has_comment s i l budget).there ≡ true
    ↔ Inspects s false l budget × (i < length (comments s))
has_comment_there s i l budget = N.has_comment_there s i l budget
