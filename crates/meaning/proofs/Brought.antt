-- A block's parameters, the caller's and the builder's, hold on entry what their arguments held before: none stands in the list twice, and none is a zero.
-- Assumes nothing.
use Prim.Native.Nat.{ℕ, zero, suc, ◌<◌}
use mathlib.Core.Path.{◌≡◌, refl, ◌∙◌}
use mathlib.Core.Logic.{◌⊎◌, inl, inr}
use mathlib.Core.List.{List, [], ◌∷◌, ◌++◌}
use lib.ListN.{length, get_or}
use native.Mathlib.Nat.{not-suc-le-zero, le_of_suc-le-suc}
use Rattle.definition.specs.Form.{Sort}
use Rattle.definition.specs.Session.{Call, State, session}
use Rattle.meaning.specs.Path.{In, Mem, res, bring, zeroed, enter}
use Rattle.meaning.specs.Stored.{Nodup}
use Rattle.meaning.proofs.Maps.{eqb_same, eqb_diff}
use Rattle.meaning.proofs.Lists.{getD_in, in_cases, snds}
use Rattle.meaning.proofs.Facts.{IsParam}
use Rattle.meaning.proofs.Inv.{pending}
use Rattle.meaning.proofs.Sealing.{idle}
use Rattle.meaning.proofs.Sure.{sure}
use Rattle.meaning.proofs.Holds.{holds}

module _ (W : Type 0) (null : ℕ → W) (t : State) where
  bring_at : (xs us : List ℕ) (old : ℕ → W) (j : ℕ) → Nodup xs → j < length xs → j < length us
      → bring W null t xs us old (get_or xs j 0) ≡ old (res W null t (get_or us j 0))
  bring_at [] us old j n l k = absurd (not-suc-le-zero l)
  bring_at (x ∷ xs) [] old j n l k = absurd (not-suc-le-zero k)
  bring_at (x ∷ xs) (u ∷ us) old zero n l k = rw (eqb_same x) refl
  bring_at (x ∷ xs) (u ∷ us) old (suc j) n l k =
      let lj = le_of_suc-le-suc l in
      rw (eqb_diff (get_or xs j 0) x (λ e. n.0 (rw e at (getD_in xs j lj)))) (bring_at xs us old j n.1 lj (le_of_suc-le-suc k))

  unset : (b : ℕ) (w : W) (type home : ℕ) (k : Sort) → IsParam k → zeroed W null t b w type home k ≡ w
  unset b w type home k (inl p) = rw p refl
  unset b w type home k (inr p) = rw p refl

-- every parameter is the builder's or the caller's
sorted : (cs : List Call) (b x : ℕ) → In x ((session cs).form.params b) → IsParam ((session cs).form.info x).sort
sorted cs b x i =
    let h = (sure cs).whole in
    by (in_cases x (h.caller.params b) (h.kp b ++ snds (pending (session cs).graph (session cs).form idle b)) (rw (h.inv.listed.split b) at i))
  where
    by : In x ((sure cs).whole.caller.params b) ⊎ In x ((sure cs).whole.kp b ++ snds (pending (session cs).graph (session cs).form idle b))
        → IsParam ((session cs).form.info x).sort
    by (inl j) = inr ((sure cs).whole.inv.owned.each b x j).1
    by (inr j) = inl ((sure cs).whole.inv.listed.pars b x j).sort

pub brought : (cs : List Call) (W : Type 0) (null : ℕ → W) (b : ℕ) (us : List ℕ) (m : Mem W null (session cs)) (j : ℕ)
    → j < length ((session cs).form.params b) → j < length us
    → (enter W null (session cs) b us m).val (get_or ((session cs).form.params b) j 0) ≡ m.val (res W null (session cs) (get_or us j 0))
brought cs W null b us m j l k =
    let s = (session cs).form in
    let x = get_or (s.params b) j 0 in
    unset W null (session cs) b (bring W null (session cs) (s.params b) us m.val x) (s.info x).type (s.info x).home (s.info x).sort
    (sorted cs b x (getD_in (s.params b) j l))
    ∙ bring_at W null (session cs) (s.params b) us m.val j ((holds cs).own.once b) l k
