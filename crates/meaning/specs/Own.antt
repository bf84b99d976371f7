-- A caller's parameters stand before the builder's and are never removed. Assumes nothing.
use Rattle.std.specs.Prelude.{◌<◌, ◌≤◌, ◌≡◌, length, drop}
use Rattle.entity.specs.Limits.{limits}
use Rattle.definition.specs.Base.{Block, Value}
use Rattle.definition.specs.Form.{Form, param, caller}
use Rattle.meaning.specs.Path.{In, callers}
use Rattle.meaning.specs.Stored.{Nodup}

pub record OwnFirst (s : Form) : Type 0 where
  -- as many as are counted stand first, and no more than the limit
  pub count : (b : Block) → length (callers s b) ≡ s.owns b
  pub few : (b : Block) → s.owns b ≤ limits.own_params
  -- these are caller's parameters of the block, the others the builder's
  pub first : (b : Block) (x : Value) → In x (callers s b) → (x < s.next) × ((s.info x).sort ≡ caller) × ((s.info x).home ≡ b)
  pub later : (b : Block) (x : Value) → In x (drop (s.owns b) (s.params b)) → (x < s.next) × ((s.info x).sort ≡ param) × ((s.info x).home ≡ b)
  -- no parameter stands in its list twice
  pub once : (b : Block) → Nodup (s.params b)
  -- and each caller's parameter stands in its block
  pub kept : (x : Value) → x < s.next → (s.info x).sort ≡ caller → In x (callers s (s.info x).home)
