-- The suppositions of demand 3 are decidable, of every list of calls: what is stored names declared blocks, so looking at these suffices.
-- Assumes nothing.
use Prim.Native.Nat.{ℕ, ◌<◌}
use mathlib.Core.Path.{◌≡◌, refl, sym, ap, ◌∙◌, subst}
use mathlib.Core.Logic.{◌≢◌, ◌⊎◌, inl, inr}
use mathlib.Core.Bool.{true, ◌||◌}
use mathlib.Core.Option.{Option, none, some}
use mathlib.Core.List.{List, [], ◌∷◌, ◌++◌}
use lib.Dec.{ltb}
use lib.ListN.{length, get_or}
use native.Mathlib.Omega.{arith}
use Rattle.definition.specs.Base.{put, has}
use Rattle.definition.specs.Session.{Call, State, session}
use Rattle.meaning.specs.Path.{Had, AllSealed, NoneEnters0, AllDeclared, OwnValues, OwnCounts, OwnSources, OwnArgs, In, Act, makes, gives, uses}
use Rattle.meaning.specs.Path.{acts, given, callers, Supposed, Right}
use Rattle.meaning.specs.Suppositions.{values, owned?, all_sealed?, none_enters_0?, all_declared?, own_values?, own_counts?, own_sources?, own_args?}
use Rattle.meaning.specs.Suppositions.{supposed?}
use Rattle.meaning.proofs.Agree.{fork, counter}
use Rattle.meaning.proofs.Maps.{same?, put_same, put_at, put_other, bool?, ltb_yes, ltb_no}
use Rattle.meaning.proofs.Lists.{getD_in}
use Rattle.meaning.proofs.Facts.{cur}
use Rattle.meaning.proofs.Story.{cur_append}
use Rattle.meaning.proofs.Demand.{demand_3}
use Rattle.meaning.proofs.Sure.{sure}
use Rattle.meaning.proofs.Stored.{stored}
use Rattle.meaning.proofs.Decide.{Decides, turned, itself, listed, denied, both, either, equal, each, each_below}

nil_cons : {A : Type 0} (us bs : List A) (a : A) → [] ≡ us ++ a ∷ bs → ⊥
nil_cons [] bs a e = let z : ◌≡◌ {A = ℕ} 0 1 = cc in omega arith
nil_cons (u ∷ us) bs a e = let z : ◌≡◌ {A = ℕ} 0 1 = cc in omega arith

-- each definition takes an own value
value_later : (x : ℕ) (a : Act) (r : List Act) → In x (values r) → In x (values (a ∷ r))
value_later x (makes y) r i = inr i
value_later x (gives v y) r i = i
value_later x (uses w y) r i = inr i

value_of : (x : ℕ) (c : Act) → ((us : List Act) → In x (values (c ∷ us))) → (r : List Act) → In c r → In x (values r)
value_of x c h [] i = absurd i
value_of x c h (a ∷ r) (inl e) = subst (λ (b : Act). In x (values (b ∷ r))) e (h r)
value_of x c h (a ∷ r) (inr i) = value_later x a r (value_of x c h r i)

had_value : (x : ℕ) (us : List Act) → Had x us → In x (values us)
had_value x us (inl i) = value_of x (makes x) (λ r. inl refl) us i
had_value x us (inr h) = value_of x (uses h.0 x) (λ r. inl refl) us h.1

value_had : (x : ℕ) (us : List Act) → In x (values us) → Had x us
value_had x [] i = absurd i
value_had x (a ∷ r) i = at a i (value_had x r)
  where
    later : (a : Act) → Had x r → Had x (a ∷ r)
    later a (inl i) = inl (inr i)
    later a (inr h) = inr (h.0, inr h.1)

    at : (a : Act) → In x (values (a ∷ r)) → (In x (values r) → Had x r) → Had x (a ∷ r)
    at (makes y) (inl e) below = inl (inl (ap makes e))
    at (makes y) (inr i) below = later (makes y) (below i)
    at (gives v y) i below = later (gives v y) (below i)
    at (uses w y) (inl e) below = inr (w, inl (ap (uses w) e))
    at (uses w y) (inr i) below = later (uses w y) (below i)

-- a definition takes a value of l, or one made or answered before
abbrev Owned : List ℕ → List Act → Type 0
Owned l all = (v x : ℕ) (us bs : List Act) → all ≡ us ++ gives v x ∷ bs → In x l ⊎ In x (values us)

-- an act that makes or answers y
module _ (a : Act) (y : ℕ) (brings : (us : List Act) → values (a ∷ us) ≡ y ∷ values us) (no_gift : (v x : ℕ) → a ≡ gives v x → ⊥) (l : List ℕ) (r : List Act) where
  brought : Decides (owned? (y ∷ l) r) (Owned (y ∷ l) r) → Decides (owned? (y ∷ l) r) (Owned l (a ∷ r))
  brought = turned to from
    where
      to : Owned (y ∷ l) r → Owned l (a ∷ r)
      to h v x [] bs q = absurd (no_gift v x (cc))
      to h v x (u ∷ us) bs q = let same : a ≡ u = cc in subst (λ (b : Act). In x l ⊎ In x (values (b ∷ us))) same (rw (brings us) (on (h v x us bs (cc))))
        where
          on : In x (y ∷ l) ⊎ In x (values us) → In x l ⊎ In x (y ∷ values us)
          on (inl (inl e)) = inr (inl e)
          on (inl (inr i)) = inl i
          on (inr i) = inr (inr i)

      from : Owned l (a ∷ r) → Owned (y ∷ l) r
      from h v x us bs q = on (rw (brings us) at (h v x (a ∷ us) bs (ap {B = List Act} (λ k. a ∷ k) q)))
        where
          on : In x l ⊎ In x (y ∷ values us) → In x (y ∷ l) ⊎ In x (values us)
          on (inl i) = inl (inr i)
          on (inr (inl e)) = inl (inl e)
          on (inr (inr i)) = inr i

owned : (l : List ℕ) (r : List Act) → Decides (owned? l r) (Owned l r)
owned l [] = record { sound = λ _ v x us bs q. absurd (nil_cons us bs (gives v x) q); complete = λ h. refl }
owned l (makes y ∷ r) = brought (makes y) y (λ us. refl) (λ v x e. let z : ◌≡◌ {A = ℕ} 0 1 = cc in omega arith) l r (owned (y ∷ l) r)
owned l (uses w y ∷ r) = brought (uses w y) y (λ us. refl) (λ v x e. let z : ◌≡◌ {A = ℕ} 0 1 = cc in omega arith) l r (owned (y ∷ l) r)
owned l (gives w y ∷ r) = turned to from (both (listed y l) (owned l r))
  where
    to : In y l × Owned l r → Owned l (gives w y ∷ r)
    to h v x [] bs q = let same : y ≡ x = cc in inl (subst (λ (j : ℕ). In j l) same h.0)
    to h v x (u ∷ us) bs q = let same : gives w y ≡ u = cc in subst (λ (b : Act). In x l ⊎ In x (values (b ∷ us))) same (h.1 v x us bs (cc))

    from : Owned l (gives w y ∷ r) → In y l × Owned l r
    from h = (on (h w y [] r refl), λ v x us bs q. h v x (gives w y ∷ us) bs (ap {B = List Act} (λ k. gives w y ∷ k) q))
      where
        on : In y l ⊎ ⊥ → In y l
        on (inl i) = i
        on (inr i) = absurd i

own_acts : (l : List ℕ) (all : List Act)
    → Decides (owned? l all) ((v x : ℕ) (us bs : List Act) → all ≡ us ++ gives v x ∷ bs → Had x us ⊎ In x l)
own_acts l all = turned (λ h v x us bs q. to x us (h v x us bs q)) (λ h v x us bs q. from x us (h v x us bs q)) (owned l all)
  where
    to : (x : ℕ) (us : List Act) → In x l ⊎ In x (values us) → Had x us ⊎ In x l
    to x us (inl i) = inr i
    to x us (inr i) = inl (value_had x us i)

    from : (x : ℕ) (us : List Act) → Had x us ⊎ In x l → In x l ⊎ In x (values us)
    from x us (inl h) = inr (had_value x us h)
    from x us (inr i) = inl i

-- what stands for a variable stays, or another value takes its place
put_some : (f : ℕ → Option ℕ) (w x v o : ℕ) → f v ≡ some o → (e : ℕ) × (put w (some x) f v ≡ some e)
put_some f w x v o q = on (same? v w)
  where
    on : (v ≡ w) ⊎ (v ≢ w) → (e : ℕ) × (put w (some x) f v ≡ some e)
    on (inl e) = (x, put_at w (some x) f v e)
    on (inr n) = (o, put_other w (some x) f v n ∙ q)

stands : (f : ℕ → Option ℕ) (r : List Act) (v o : ℕ) → f v ≡ some o → (e : ℕ) × (cur f r v ≡ some e)
stands f [] v o q = (o, q)
stands f (makes x ∷ r) v o q = stands f r v o q
stands f (uses w x ∷ r) v o q = stands f r v o q
stands f (gives w x ∷ r) v o q = let k = put_some f w x v o q in stands (put w (some x) f) r v k.0 k.1

module _ (cs : List Call) where
  abbrev t : State
  t = session cs

  -- a block in which a variable is defined is declared
  defined_below : (b v x : ℕ) (us bs : List Act) → acts b t.done ≡ us ++ gives v x ∷ bs → b < t.graph.blocks
  defined_below b v x us bs q =
      let before : ℕ → Option ℕ = cur (λ w. none) us in
      let k = stands (put v (some x) before) bs v x (put_same v (some x) before) in
      let recorded = ap (λ (l : List Act). cur (λ w. none) l v) q ∙ ap (λ (f : ℕ → Option ℕ). f v) (cur_append (λ w. none) us (gives v x ∷ bs)) ∙ k.1 in
      ((stored cs).own v b k.0 ((sure cs).whole.own b v ∙ recorded)).1

  pub all_sealed_decided : Decides (all_sealed? t) (AllSealed t)
  all_sealed_decided = each_below (λ b. itself (t.graph.sealed b)) t.graph.blocks

  pub none_enters_0_decided : Decides (none_enters_0? t) (NoneEnters0 t)
  none_enters_0_decided =
      turned (λ h p i. h p ((stored cs).dests p 0 i).0 i) (λ h p l. h p)
      (each_below (λ p. denied (listed 0 (t.graph.dests p))) t.graph.blocks)

  pub all_declared_decided : Decides (all_declared? t) (AllDeclared t)
  all_declared_decided =
      turned (λ h p b i. h p ((stored cs).dests p b i).0 b i) (λ h p l. h p)
      (each_below (λ p. each (λ b. listed p (t.graph.preds b)) (t.graph.dests p)) t.graph.blocks)

  pub own_values_decided : Decides (own_values? t) (OwnValues t)
  own_values_decided =
      turned (λ h b v x us bs q. h b (defined_below b v x us bs q) v x us bs q) (λ h b l. h b)
      (each_below (λ b. own_acts (callers t.form b) (acts b t.done)) t.graph.blocks)

  -- arguments are given at a destination, of a branch that is there
  given_there : (p i x : ℕ) → In x (given p i t.done) → i < length (t.graph.dests p)
  given_there p i x k = elim (bool? (ltb i (length (t.graph.dests p)))) [
    | inl e ↦ ltb_yes i (length (t.graph.dests p)) e
    | inr e ↦ let h = (sure cs).whole in
        let none = sym (h.gifts p i) ∙ h.inv.passed.there p i (ltb_no i (length (t.graph.dests p)) e) in
        absurd (subst (λ (l : List ℕ). In x l) none k)
  ]

  branch_there : (p i : ℕ) → i < length (t.graph.dests p) → p < t.graph.blocks
  branch_there p i lt = ((stored cs).dests p (get_or (t.graph.dests p) i 0) (getD_in (t.graph.dests p) i lt)).0

  own_counts_decided : Decides (own_counts? t) (OwnCounts t)
  own_counts_decided =
      turned (λ h p i lt. h p (branch_there p i lt) i lt) (λ h p l. h p)
      (each_below (λ p. each_below (λ i. equal (length (given p i t.done)) (t.form.owns (get_or (t.graph.dests p) i 0))) (length (t.graph.dests p)))
      t.graph.blocks)

  sourced : (p x : ℕ) → Decides (has x (values (acts p t.done)) || has x (callers t.form p)) (Had x (acts p t.done) ⊎ In x (callers t.form p))
  sourced p x = either (turned (value_had x (acts p t.done)) (had_value x (acts p t.done)) (listed x (values (acts p t.done))))
      (listed x (callers t.form p))

  own_sources_decided : Decides (own_sources? t) (OwnSources t)
  own_sources_decided =
      turned (λ h p i x k. let lt = given_there p i x k in h p (branch_there p i lt) i lt x k) (λ h p l i lt x k. h p i x k)
      (each_below (λ p. each_below (λ i. each (sourced p) (given p i t.done)) (length (t.graph.dests p))) t.graph.blocks)

  pub own_args_decided : Decides (own_args? t) (OwnArgs t)
  own_args_decided = both own_counts_decided own_sources_decided

  pub supposed_decided : Decides (supposed? t) (Supposed t)
  supposed_decided =
      turned to (λ S. ((((S.all_sealed, S.none_enters_0), S.all_declared), S.own_values), S.own_args))
      (both (both (both (both all_sealed_decided none_enters_0_decided) all_declared_decided) own_values_decided) own_args_decided)
    where
      to : (((AllSealed t × NoneEnters0 t) × AllDeclared t) × OwnValues t) × OwnArgs t → Supposed t
      to h = record { all_sealed = h.0.0.0.0; none_enters_0 = h.0.0.0.1; all_declared = h.0.0.1; own_values = h.0.1; own_args = h.1 }

  pub supposed_sound : supposed? t ≡ true → Supposed t
  supposed_sound = supposed_decided.sound

  pub supposed_complete : Supposed t → supposed? t ≡ true
  supposed_complete = supposed_decided.complete

-- The suppositions can be met, by a list that is not trivial (Agree.antt): its uses are faithful, its destinations fed.
pub fork_meets : supposed? (session fork) ≡ true
fork_meets = refl

pub fork_right : Right (session fork)
fork_right = demand_3 fork (supposed_sound fork fork_meets)

-- So it is with a loop that carries an index, in a caller's parameter.
pub counter_meets : supposed? (session counter) ≡ true
counter_meets = refl

pub counter_right : Right (session counter)
counter_right = demand_3 counter (supposed_sound counter counter_meets)
