-- The two tables among the cells that a session leaves, and the lists that their rows hold.
-- Assumes nothing.
use Rattle.std.specs.Prelude.{ℕ, List, get_or, take, drop}
use Rattle.definition.specs.Form.{Form}
use Rattle.layout.specs.Cells.{base}
use Rattle.layout.specs.Layout.{form_sizes}
use Rattle.reader.specs.declared.Asked.{Asked}
use Rattle.reader.specs.declared.Asked.TheVariants.{Params, Args}
use Rattle.reader.specs.Rows.{table_of}

-- the form's table to look in: parameters are its table 7, arguments its table 11 (layout/specs/Layout)
abbrev pub table_number : Asked → ℕ
table_number = table_of 7 11

-- that table, as the part of the form's cells that a host lends
abbrev pub table_in : List ℕ → Asked → List ℕ
table_in form a = take (get_or form_sizes (table_number a) 0) (drop (base form_sizes (table_number a)) form)

-- the list asked for
abbrev pub listed : Form → Asked → List ℕ
listed s (Params b) = s.params b.0
listed s (Args p i) = s.args p.0 i
