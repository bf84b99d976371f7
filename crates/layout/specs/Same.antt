-- Two states have the same tables: what the cells show of them is the same, within the limits.
-- Assumes nothing.
use Rattle.std.specs.Prelude.{ℕ, ◌<◌, ◌≡◌}
use Rattle.entity.specs.Limits.{limits}
use Rattle.definition.specs.Form.{Graph, Form, def}
use Rattle.layout.specs.Layout.{firsts}

pub record SameGraph (g g' : Graph) : Type 0 where
  pub blocks : g.blocks ≡ g'.blocks
  pub types : g.types ≡ g'.types
  pub branch : (b : ℕ) → b < limits.blocks → g.branch b ≡ g'.branch b
  pub sealed : (b : ℕ) → b < limits.blocks → g.sealed b ≡ g'.sealed b
  pub declared : (b : ℕ) → b < limits.blocks → g.declared b ≡ g'.declared b
  pub marks : (v : ℕ) → v < limits.variables → g.marks v ≡ g'.marks v
  pub dests : (b : ℕ) → b < limits.blocks → g.dests b ≡ g'.dests b
  pub preds : (b : ℕ) → b < limits.blocks → g.preds b ≡ g'.preds b

pub record SameForm (s s' : Form) : Type 0 where
  pub next : s.next ≡ s'.next
  pub makes : s.makes ≡ s'.makes
  pub target : (x : ℕ) → x < s.next → s.target x ≡ s'.target x
  pub info : (x : ℕ) → x < s.next → s.info x ≡ s'.info x
  pub recorded : (x : ℕ) → x < s.next → s.recorded x ≡ s'.recorded x
  pub placed : s.placed ≡ s'.placed
  pub zeros : s.zeros ≡ s'.zeros
  pub params : (b : ℕ) → b < limits.blocks → s.params b ≡ s'.params b
  pub owns : (b : ℕ) → b < limits.blocks → s.owns b ≡ s'.owns b
  pub pending : (b : ℕ) → b < limits.blocks → firsts (s.pending b) ≡ firsts (s'.pending b)
  pub defs : (v b : ℕ) → v < limits.variables → b < limits.blocks → def s v b ≡ def s' v b
  pub args : (p i : ℕ) → p < limits.blocks → i < limits.dests → s.args p i ≡ s'.args p i
