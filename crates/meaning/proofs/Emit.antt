-- The first step of a zero is one more value, of sort zero, and nothing else, or there is none: by these two cases, whatever the types. So what holds of a zero
-- in two steps and of one in a single step is shown once.
-- Assumes nothing.
use Prim.Native.Nat.{ℕ, suc, ◌<◌, ◌≤◌}
use mathlib.Core.Path.{◌≡◌, refl, sym}
use mathlib.Core.Option.{Option, none, some}
use native.Mathlib.Omega.{arith}
use Rattle.definition.specs.Form.{Form, Info, nought, with_next, with_info}
use Rattle.definition.specs.Read.{emit_step}
use Rattle.meaning.proofs.Maps.{put_at, put_other, some_inj, some_none}

pub emit_is : (o : Option ℕ) (b : ℕ) (s : Form) → emit_step o b s ≡ with_info (with_next s (emit_step o b s).next) (emit_step o b s).info
emit_is none b s = refl
emit_is (some t) b s = refl

-- a zero's value of type t in block b
abbrev pub zero_info : ℕ → ℕ → Info
zero_info t b = record { sort = nought; type = t; home = b }

-- from n values to m, for the first step o in block b
pub record Stepped (o : Option ℕ) (b n m : ℕ) (info info' : ℕ → Info) : Type 0 where
  pub more : n ≤ m
  pub few : m ≤ suc n
  pub old : (y : ℕ) → y < n → info' y ≡ info y
  -- what is new is the step
  pub new : (y : ℕ) → n ≤ y → y < m → (t : ℕ) × (o ≡ some t) × (m ≡ suc y) × (info' y ≡ zero_info t b)
  pub there : (t : ℕ) → o ≡ some t → (y : ℕ) × (m ≡ suc y) × (info' y ≡ zero_info t b)

pub emit_stepped : (o : Option ℕ) (b : ℕ) (s : Form) → Stepped o b s.next (emit_step o b s).next s.info (emit_step o b s).info
emit_stepped none b s = record {
  more = omega arith;
  few = omega arith;
  old = λ y l. refl;
  new = λ y l k. absurd (omega arith);
  there = λ t e. absurd (some_none e refl);
}
emit_stepped (some t) b s = record {
  more = omega arith;
  few = omega arith;
  old = λ y l. put_other s.next (zero_info t b) s.info y (omega arith);
  new = λ y l k. let e : y ≡ s.next = omega arith in (t, refl, omega arith, put_at s.next (zero_info t b) s.info y e);
  there = λ u e. (s.next, refl, rw (sym (some_inj e)) (put_at s.next (zero_info t b) s.info s.next refl));
}
