-- A variable causes at most one parameter and one zero per block, the zero in two steps at most. A parameter and a zero stay what they are, also once the
-- parameter is an alias.
-- Assumes nothing.
use Rattle.std.specs.Prelude.{ℕ, suc, ◌*◌, ◌<◌, ◌≤◌, ◌≡◌, ◌⊎◌, List, length}
use Rattle.std.proofs.Math.Option.{some}
use Rattle.entity.specs.Types.{step_of}
use Rattle.definition.specs.Base.{Block, Variable, Value}
use Rattle.definition.specs.Form.{Graph, Form, Info, Sort, param, nought}
use Rattle.meaning.specs.Path.{In}
use Rattle.meaning.specs.Stored.{Nodup}

-- of values up to next: y is the first step of the zero z, in the same block and directly before it, of the type from which z's is made
pub record FirstStep (next : ℕ) (info : Value → Info) (y z : Value) : Type 0 where
  pub after : z ≡ suc y
  pub below : z < next
  pub sort : (info z).sort ≡ nought
  pub home : (info z).home ≡ (info y).home
  pub type : step_of (info z).type ≡ some (info y).type

module _ (s : Form) where
  -- v causes the parameter x of b
  pub record CausesParam (v : Variable) (b : Block) (x : Value) : Type 0 where
    pub below : x < s.next
    pub sort : (s.info x).sort ≡ param
    pub home : (s.info x).home ≡ b
    pub entry : s.entry v b ≡ some x

  -- v causes the zero z of b: v's parameter is its alias
  pub record CausesZero (v : Variable) (b : Block) (z : Value) : Type 0 where
    pub below : z < s.next
    pub sort : (s.info z).sort ≡ nought
    pub home : (s.info z).home ≡ b
    pub param : Value
    pub caused : CausesParam v b param
    pub target : s.target param ≡ z

  -- v causes y as the first step of a zero
  pub record CausesStep (v : Variable) (b : Block) (y : Value) : Type 0 where
    pub zero : Value
    pub caused : CausesZero v b zero
    pub step : FirstStep s.next s.info y zero

  -- values of this sort in block b, each once
  pub record ListedIn (k : Sort) (b : Block) (l : List Value) : Type 0 where
    pub once : Nodup l
    pub each : (x : Value) → In x l → (x < s.next) × ((s.info x).sort ≡ k) × ((s.info x).home ≡ b)

-- Each has a cause, no two in a block have the same, and so a block has no more parameters than there are variables, and no more than twice as many values of
-- sort zero.
pub record Once (g : Graph) (s : Form) : Type 0 where
  pub param_caused : (x : Value) → x < s.next → (s.info x).sort ≡ param
      → (v : Variable) × (v < length g.types) × CausesParam s v (s.info x).home x
  pub zero_caused : (z : Value) → z < s.next → (s.info z).sort ≡ nought
      → (v : Variable) × (v < length g.types) × (CausesZero s v (s.info z).home z ⊎ CausesStep s v (s.info z).home z)
  pub one_param : (v : Variable) (b : Block) (x y : Value) → CausesParam s v b x → CausesParam s v b y → x ≡ y
  pub one_zero : (v : Variable) (b : Block) (z u : Value) → CausesZero s v b z → CausesZero s v b u → z ≡ u
  pub one_step : (v : Variable) (b : Block) (z u : Value) → CausesStep s v b z → CausesStep s v b u → z ≡ u
  -- a zero whose type takes two steps has the first one before it
  pub steps : (z : Value) (ty : ℕ) → z < s.next → (s.info z).sort ≡ nought → step_of (s.info z).type ≡ some ty
      → (y : Value) × ((s.info y).sort ≡ nought) × ((s.info y).type ≡ ty) × FirstStep s.next s.info y z
  pub few_params : (b : Block) (l : List Value) → ListedIn s param b l → length l ≤ length g.types
  pub few_zeros : (b : Block) (l : List Value) → ListedIn s nought b l → length l ≤ 2 * length g.types
