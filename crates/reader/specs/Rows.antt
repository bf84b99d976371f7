-- Which row is asked for, whether a table has it, and where it lies there.
-- Assumes nothing.
use Rattle.std.specs.Prelude.{ℕ, ◌+◌, ◌*◌, ◌≡◌, Bool, ◌&&◌, List, length, get_or, take, drop, if◌then◌else◌}
use Rattle.std.specs.Prelude.{Option, Some, None, MatchOption}
use Rattle.std.specs.Borrow.{Bor}
use Rattle.entity.specs.Limits.{limits, param_room}
use Rattle.definition.specs.Base.{◌<?◌, ◌≤?◌}
use Rattle.layout.specs.Layout.{param_row}
use Rattle.reader.specs.declared.Asked.{Asked}
use Rattle.reader.specs.declared.Asked.TheVariants.{Params, Args}
use Rattle.reader.specs.declared.Span.{Span}

-- of two tables, the parameters' and the arguments', the one to look in
abbrev pub table_of {ℓ} : {A : Type ℓ} → A → A → Asked → A
table_of params args (Params b) = params
table_of params args (Args p i) = args

-- are the numbers below the limits?
abbrev pub named : Asked → Bool
named (Params b) = b.0 <? limits.blocks
named (Args p i) = p.0 <? limits.blocks && i <? limits.dests

-- which row of its table it is
abbrev pub number : Asked → ℕ
number (Params b) = b.0
number (Args p i) = p.0 * limits.dests + i

-- the cell of the row's count
abbrev pub head : Asked → ℕ
head a = number a * param_row

-- Has table t the row? Its numbers are below the limits, the whole row lies in the table, and its count is no more than its room.
abbrev pub known : List ℕ → Asked → Bool
known t a = named a && head a + param_row ≤? length t && get_or t (head a) 0 ≤? param_room limits

-- The row: the cell where its entries start, and how many they are. A row that the table hasn't has none, from cell 0 on.
abbrev pub row_of : List ℕ → Asked → ℕ × ℕ
row_of t a = if known t a then (head a + 1, get_or t (head a) 0) else (0, 0)

abbrev pub code_of : List ℕ → Asked → ℕ
code_of t a = if known t a then 0 else 6

-- this code, start and length are the row's
pub record Located (t : List ℕ) (a : Asked) (code start length : ℕ) : Type 0 where
  pub code_is : code ≡ code_of t a
  pub start_is : start ≡ (row_of t a).0
  pub length_is : length ≡ (row_of t a).1

-- the code, the start and the length that stand for what `locate` answers
abbrev pub span_code : Option Span → ℕ
span_code (Some s) = 0
span_code None = 6

abbrev pub span_start : Option Span → ℕ
span_start (Some s) = s.start
span_start None = 0

abbrev pub span_length : Option Span → ℕ
span_length (Some s) = s.length
span_length None = 0

-- r is the row of t that is asked for: not only does it hold the same, it is those cells, in their place. A cell has four bytes.
pub record IsRow (t : Bor (List ℕ)) (a : Asked) (r : Bor (List ℕ)) : Type 0 where
  pub start : r.ref_ptr ≡ (t.ref_ptr.0, (row_of t.now a).0 * 4 + t.ref_ptr.1)
  pub long : length r.now ≡ (row_of t.now a).1
  pub cells : r.now ≡ take (row_of t.now a).1 (drop (row_of t.now a).0 t.now)

-- r is the row if there is one, and none if there is not
abbrev pub FindsRow : Bor (List ℕ) → Asked → Option (Bor (List ℕ)) → Type 0
FindsRow t a r = MatchOption r (code_of t.now a ≡ 6) (λ part. IsRow t a part × (code_of t.now a ≡ 0))
