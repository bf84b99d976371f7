-- Unset values by bits: every type's number in the tables is below the count of types; where a path enters a block, its zeros are set; and a variable that no act gives anything holds what it held at the start.
-- Assumes nothing.
use Prim.Native.Nat.{ℕ, suc}
use mathlib.Core.Path.{◌≡◌, refl, ap, ◌∙◌}
use mathlib.Core.Logic.{inl, inr}
use mathlib.Core.List.{List, [], ◌∷◌}
use lib.ListN.{length}
use native.Mathlib.Omega.{arith}
use borrow.Author.Tests.{eq-eqb}
use Rattle.entity.specs.Types.{unset_of}
use Rattle.definition.specs.Form.{nought}
use Rattle.definition.specs.Read.{type_of}
use Rattle.definition.specs.Session.{Call, State, session}
use Rattle.meaning.specs.Path.{In, Act, makes, gives, uses, acts, Mem, res, do_acts, At, start, go}
use Rattle.meaning.specs.Bits.{FaithfulBits, NotGiven, UnsetShows, ZerosTyped}
use Rattle.meaning.proofs.Maps.{put_other}
use Rattle.meaning.proofs.Stored.{stored}

module _ (W : Type 0) (null : ℕ → W) (t : State) {fresh : ℕ → ℕ → W} {any : ℕ → W} where
  entered : {bs : List ℕ} {b : ℕ} {m : Mem W null t} → At W null t fresh any bs b m → (z : ℕ) → (t.form.info z).sort ≡ nought → (t.form.info z).home ≡ b
      → m.val z ≡ null (t.form.info z).type
  entered start z s h = rw (s, eq-eqb _ _ h)
  entered (go i a lt) z s h = rw (s, eq-eqb _ _ h)

  started : {bs : List ℕ} {b : ℕ} {m : Mem W null t} → At W null t fresh any bs b m → bs ≡ [] → (v : ℕ) → m.var v ≡ null (type_of t.graph v)
  started start e v = refl
  started (go {bs} i a lt) e v = absurd (let z : suc (length bs) ≡ 0 = ap length e in omega arith)

module _ (W : Type 0) (null : ℕ → W) (t : State) (v : ℕ) where
  same_after : (fresh : ℕ → W) (us : List Act) (m : Mem W null t) → NotGiven v us → (do_acts W null t fresh us m).var v ≡ m.var v
  same_after fresh [] m n = refl
  same_after fresh (makes x ∷ us) m n = same_after fresh us _ (λ y i. n y (inr i))
  same_after fresh (gives w x ∷ us) m n =
      same_after fresh us _ (λ y i. n y (inr i)) ∙ put_other w (m.val (res W null t x)) m.var v (λ e. n x (inl (ap (λ u. gives u x) e)))
  same_after fresh (uses w x ∷ us) m n = same_after fresh us m (λ y i. n y (inr i))

  still_unset : {fresh : ℕ → ℕ → W} {any : ℕ → W} {bs : List ℕ} {b : ℕ} {m : Mem W null t} → At W null t fresh any bs b m
      → ((p : ℕ) → In p bs → NotGiven v (acts p t.done)) → m.var v ≡ null (type_of t.graph v)
  still_unset start n = refl
  still_unset {fresh} (go {bs} {p} {m} i a lt) n =
      same_after (fresh (length bs)) (acts p t.done) m (n p (inl refl)) ∙ still_unset a (λ q j. n q (inr j))

-- what a variable last received is its type's unset value where it received nothing, so what holds the former holds the latter
pub shows : (t : State) → FaithfulBits t → UnsetShows t
shows t f fresh any bs b m at before after v x e passed here =
    f fresh any bs b m at before after v x e
    ∙ same_after ℕ unset_of t v (fresh (length bs)) before m here
    ∙ still_unset ℕ unset_of t v at passed

pub zeros_typed : (cs : List Call) → ZerosTyped (session cs)
zeros_typed cs =
    let t = session cs in
    record {
      zeros = λ z l s. (((stored cs).info z l).1, λ fresh any bs m at. entered ℕ unset_of t at z s refl);
      variables = λ v l. ((stored cs).types v l, λ fresh any m at. started ℕ unset_of t at refl v);
    }
