-- The counts that a host is told are the definition's: past the last kind every call is of an unknown kind, up to it none is; and the sorts' numbers
-- are those below their count. By computation, and for a number past the list by the list's length.
-- Assumes nothing.
use Prim.Native.Nat.{ℕ, ◌≤◌, ◌<◌}
use mathlib.Core.Path.{◌≡◌, refl}
use mathlib.Core.Bool.{Bool, false}
use mathlib.Core.List.{List, [], ◌∷◌, map}
use lib.ListN.{length, get_or-eq_default}
use Rattle.definition.specs.Base.{◌=?◌, up_from}
use Rattle.definition.specs.Form.{Graph, Form, Sort, made, param, nought, caller}
use Rattle.definition.specs.Session.{Done, Reply, no, ok, reply, empty}
use Rattle.definition.specs.Tables.{sort_number}
use Rattle.exports.specs.Told.{kind_count, sort_count, all_told, told}

pub past_told : (which : ℕ) → length all_told ≤ which → told which ≡ 0
past_told which h = get_or-eq_default all_told 0 h

pub past_kinds : (g : Graph) (s : Form) (ds : List Done) (x y z k : ℕ) → kind_count < k → reply g s ds x y z k ≡ no 3
past_kinds g s ds x y z k h = rw (get_or-eq_default _ _ h)

abbrev unknown : Reply → Bool
unknown (no code) = code =? 3
unknown (ok n g s) = false

-- even where nothing is declared yet
pub kinds_known : map (λ k. unknown (reply empty.graph empty.form [] 0 0 0 k)) (up_from 1 kind_count) ≡ map (λ k. false) (up_from 1 kind_count)
kinds_known = refl

abbrev sorts : List Sort
sorts = made ∷ param ∷ nought ∷ caller ∷ []

pub sorts_counted : map sort_number sorts ≡ up_from 0 sort_count
sorts_counted = refl
