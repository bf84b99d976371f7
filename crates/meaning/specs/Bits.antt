-- Demand 3 by bits: a word is a number, up to 128 bits that a value holds, and the unset value of a type is the bits that entity/specs/Types.antt gives it:
-- 0x7FC0_0000 for F32, 0x7FF8_0000_0000_0000 for F64, 0 for the integers, and for a vector those of its lane, repeated.
-- Assumes nothing.
use Rattle.std.specs.Prelude.{ℕ, ◌<◌, ◌≡◌, List, [], ◌∷◌, ◌++◌, length}
use Rattle.entity.specs.Types.{type_count, unset_of}
use Rattle.definition.specs.Base.{Variable, Value}
use Rattle.definition.specs.Form.{nought}
use Rattle.definition.specs.Read.{type_of}
use Rattle.definition.specs.Session.{State}
use Rattle.meaning.specs.Path.{In, Act, gives, uses, acts, Mem, res, do_acts, At, Faithful}

-- nothing is given to v among these acts
abbrev pub NotGiven : Variable → List Act → Type 0
NotGiven v us = (x : Value) → In (gives v x) us → ⊥

module _ (t : State) where
  -- a path, by bits: `fresh n x` is what the made value x holds at the visit after n others, `any x` what x holds before it is set
  abbrev pub AtBits : (ℕ → ℕ → ℕ) → (ℕ → ℕ) → List ℕ → ℕ → Mem ℕ unset_of t → Type 0
  AtBits = At ℕ unset_of t

  -- On every path each use's answer, aliases resolved, holds at that use the bits that its variable last received, or those of its type's unset
  -- value.
  abbrev pub FaithfulBits : Type 0
  FaithfulBits = Faithful ℕ unset_of t

  -- The second half by itself: where v received nothing, in the blocks passed and in this one before the use, the use's answer, aliases resolved, holds
  -- exactly the bits of the unset value of v's type.
  abbrev pub UnsetShows : Type 0
  UnsetShows = (fresh : ℕ → ℕ → ℕ) (any : ℕ → ℕ) (bs : List ℕ) (b : ℕ) (m : Mem ℕ unset_of t) → AtBits fresh any bs b m
      → (before after : List Act) (v x : ℕ) → acts b t.done ≡ before ++ uses v x ∷ after
      → ((p : ℕ) → In p bs → NotGiven v (acts p t.done)) → NotGiven v before
      → (do_acts ℕ unset_of t (fresh (length bs)) before m).val (res ℕ unset_of t x) ≡ unset_of (type_of t.graph v)

  -- Which type's bits these are.
  pub record ZerosTyped : Type 0 where
    -- Each value of sort zero in the tables, a first step too, is of a type that there is, and wherever a path enters its block it holds the bits of its own
    -- type's unset value.
    pub zeros : (z : Value) → z < t.form.next → (t.form.info z).sort ≡ nought → ((t.form.info z).type < type_count)
        × ((fresh : ℕ → ℕ → ℕ) (any : ℕ → ℕ) (bs : List ℕ) (m : Mem ℕ unset_of t) → AtBits fresh any bs (t.form.info z).home m
        → m.val z ≡ unset_of (t.form.info z).type)
    -- Each variable is of a type that there is, and where a path starts it holds the bits of its type's unset value.
    pub variables : (v : Variable) → v < length t.graph.types → (type_of t.graph v < type_count)
        × ((fresh : ℕ → ℕ → ℕ) (any : ℕ → ℕ) (m : Mem ℕ unset_of t) → AtBits fresh any [] 0 m → m.var v ≡ unset_of (type_of t.graph v))
