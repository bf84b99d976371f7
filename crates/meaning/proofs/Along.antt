-- Demand 3 along a path, from the facts: what a block records of a variable at its beginning holds what the variable received, by induction on the path.
-- Assumes nothing.
use Prim.Native.Nat.{ℕ, ◌<◌}
use mathlib.Core.Path.{◌≡◌, refl, sym, ap, ◌∙◌, subst}
use mathlib.Core.Logic.{⊎_elim, ◌≢◌, inl, inr}
use mathlib.Core.Bool.{Bool, true, false, cond}
use mathlib.Core.Option.{Option, some}
use mathlib.Core.List.{List, [], ◌∷◌, ◌++◌}
use lib.Dec.{eqb}
use lib.ListN.{length, get_or}
use native.Mathlib.Omega.{arith}
use Rattle.definition.specs.Base.{put}
use Rattle.definition.specs.Form.{Sort, made, param, nought, caller, def}
use Rattle.definition.specs.Read.{resolve, type_of}
use Rattle.definition.specs.Session.{State}
use Rattle.meaning.specs.Path.{In, Act, makes, gives, uses, acts, Mem, do_act, do_acts, bring, zeroed, zeros_set, enter, At, start, go, Counted}
use Rattle.meaning.specs.Path.{Faithful}
use Rattle.meaning.proofs.Maps.{some_inj, put_at, same?, put_other, eqb_diff, some_none}
use Rattle.meaning.proofs.Facts.{arg_of, cur, Edge, same, kept, Told, Facts, IsParam, OwnParam}
use Rattle.meaning.proofs.Lists.{getD_in, in_cons, in_one}

module _ (W : Type 0) (null : ℕ → W) (t : State) where
  open t use {graph, form, done}
  open form use {info, entry, params, args}

  abbrev R : ℕ → ℕ
  R x = resolve form x

  caller_made : {k : Sort} → k ≡ caller → k ≡ made → ⊥
  caller_made p q = let z : ◌≡◌ {A = ℕ} 0 1 = cc in omega arith

  -- ---- the acts of block b, with the blocks vis visited

  module _ (b : ℕ) (vis : List ℕ) where
    -- y was set: its block was visited, and if b makes it, it is one of those made so far
    abbrev SetBy : List ℕ → ℕ → Type 0
    SetBy ms y = In (info y).home vis × ((info y).home ≡ b → (info y).sort ≡ made → In y ms)

    -- ms are made and us answered so far; what f records of a variable is set and holds what the variable received
    record Ready (ms us : List ℕ) (f : ℕ → Option ℕ) (m : Mem W null t) : Type 0 where
      here : In b vis
      good : (v o : ℕ) → f v ≡ some o → (m.val (R o) ≡ m.var v) × SetBy ms (R o)
      made_here : (x : ℕ) → In x ms → SetBy ms (R x)
      heard : (x : ℕ) → In x us → SetBy ms (R x)

    module _ (w : ℕ → W) (ms us : List ℕ) (f : ℕ → Option ℕ) (m : Mem W null t) (h : Ready ms us f m) where
      ready_makes : (x : ℕ) (r : List Act) → Told graph form b f ms us (makes x ∷ r) → Ready (x ∷ ms) us f (do_act W null t w (makes x) m)
      ready_makes x r told = record {
        here = h.here;
        good = λ v o e. let k = h.good v o e in
            (put_other x (w x) m.val (R o) (λ q. told.0 (rw q at (k.1.1 (rw q told.1) (rw q told.2)))) ∙ k.0, more (R o) k.1);
        made_here = in_cons x ms (rw (told.3, told.1) h.here, λ p q. inl told.3) (λ y i. more (R y) (h.made_here y i));
        heard = λ y i. more (R y) (h.heard y i);
      }
        where
          more : (y : ℕ) → SetBy ms y → SetBy (x ∷ ms) y
          more y k = (k.0, λ p q. inr (k.1 p q))

      ready_gives : (v x : ℕ) (r : List Act) → Told graph form b f ms us (gives v x ∷ r)
          → Ready ms us (put v (some x) f) (do_act W null t w (gives v x) m)
      ready_gives v x r told = record {
        here = h.here;
        good = λ u o e. elim (same? u v) [
          | inl q ↦ rw (some_inj (sym e ∙ put_at v (some x) f u q), put_at v (m.val (R x)) m.var u q)
              (refl, ⊎_elim (⊎_elim (h.made_here x) (h.heard x)) (own_set x) told.0)
          | inr n ↦ rw (put_other v (m.val (R x)) m.var u n) (h.good u o (sym (put_other v (some x) f u n) ∙ e))
        ];
        made_here = h.made_here;
        heard = h.heard;
      }
        where
          own_set : (y : ℕ) → OwnParam graph form b y → SetBy ms (R y)
          own_set y o = rw o.2 (rw o.0 h.here, λ p q. absurd (caller_made o.1 q))

      ready_uses : (v x : ℕ) (r : List Act) → Told graph form b f ms us (uses v x ∷ r) → Ready ms (x ∷ us) f m
      ready_uses v x r told = record {
        here = h.here;
        good = h.good;
        made_here = h.made_here;
        heard = in_cons x us (rw told.0.2 (h.good v told.0.0 told.0.1).1) h.heard;
      }

    module _ (w : ℕ → W) where
      -- after all of the acts
      all_acts : (ms us : List ℕ) (f : ℕ → Option ℕ) (m : Mem W null t) (r : List Act) → Told graph form b f ms us r → Ready ms us f m
          → (v o : ℕ) → cur f r v ≡ some o → ((do_acts W null t w r m).val (R o) ≡ (do_acts W null t w r m).var v) × In (info (R o)).home vis
      all_acts ms us f m [] told h = λ v o e. ((h.good v o e).0, (h.good v o e).1.0)
      all_acts ms us f m (makes x ∷ r) told h = all_acts (x ∷ ms) us f (do_act W null t w (makes x) m) r told.4 (ready_makes w ms us f m h x r told)
      all_acts ms us f m (gives u x ∷ r) told h = all_acts ms us (put u (some x) f) (do_act W null t w (gives u x) m) r told.1 (ready_gives w ms us f m h u x r told)
      all_acts ms us f m (uses u x ∷ r) told h = all_acts ms (x ∷ us) f m r told.1 (ready_uses w ms us f m h u x r told)

      -- at a use
      at_use : (ms us : List ℕ) (f : ℕ → Option ℕ) (m : Mem W null t) (r after : List Act) (v x : ℕ)
          → Told graph form b f ms us (r ++ uses v x ∷ after) → Ready ms us f m
          → (do_acts W null t w r m).val (R x) ≡ (do_acts W null t w r m).var v
      at_use ms us f m [] after v x told h = rw told.0.2 (h.good v told.0.0 told.0.1).0
      at_use ms us f m (makes y ∷ r) after v x told h =
          at_use (y ∷ ms) us f (do_act W null t w (makes y) m) r after v x told.4 (ready_makes w ms us f m h y (r ++ uses v x ∷ after) told)
      at_use ms us f m (gives u y ∷ r) after v x told h =
          at_use ms us (put u (some y) f) (do_act W null t w (gives u y) m) r after v x told.1 (ready_gives w ms us f m h u y (r ++ uses v x ∷ after) told)
      at_use ms us f m (uses u y ∷ r) after v x told h = at_use ms (y ∷ us) f m r after v x told.1 (ready_uses w ms us f m h u y (r ++ uses v x ∷ after) told)

  -- ---- entering a block

  bring_arg : (xs us : List ℕ) (old : ℕ → W) (y a : ℕ) → arg_of xs us y ≡ some a → bring W null t xs us old y ≡ old (R a)
  bring_arg [] us old y a e = absurd (some_none e refl)
  bring_arg (x ∷ xs) [] old y a e = absurd (some_none e refl)
  bring_arg (x ∷ xs) (u ∷ us) old y a e = by (eqb y x) (bring_arg xs us old y a) e
    where
      by : (c : Bool) → (arg_of xs us y ≡ some a → bring W null t xs us old y ≡ old (R a)) → cond c (some u) (arg_of xs us y) ≡ some a
          → cond c (old (R u)) (bring W null t xs us old y) ≡ old (R a)
      by true below e' = ap (λ (i : ℕ). old (R i)) (some_inj e')
      by false below e' = below e'

  bring_other : (xs us : List ℕ) (old : ℕ → W) (y : ℕ) → (In y xs → ⊥) → bring W null t xs us old y ≡ old y
  bring_other [] us old y n = refl
  bring_other (x ∷ xs) [] old y n = refl
  bring_other (x ∷ xs) (u ∷ us) old y n = rw (eqb_diff y x (λ q. n (inl q))) (bring_other xs us old y (λ i. n (inr i)))

  zeros_other : (b : ℕ) (old : ℕ → W) (y : ℕ) → (info y).home ≢ b → zeros_set W null t b old y ≡ old y
  zeros_other b old y n = by (info y).sort
    where
      by : (k : Sort) → zeroed W null t b (old y) (info y).type (info y).home k ≡ old y
      by nought = rw (eqb_diff (info y).home b n)
      by made = refl
      by param = refl
      by caller = refl

  nought_made : {k : Sort} → k ≡ nought → k ≡ made → ⊥
  nought_made p q = let z : ◌≡◌ {A = ℕ} 0 1 = cc in omega arith

  param_made : {k : Sort} → k ≡ param → k ≡ made → ⊥
  param_made p q = let z : ◌≡◌ {A = ℕ} 0 1 = cc in omega arith

  -- no parameter is made, nor is it set with the zeros
  not_made : {k : Sort} → IsParam k → k ≡ made → ⊥
  not_made (inl p) q = param_made p q
  not_made (inr p) q = caller_made p q

  not_zeroed : (b : ℕ) (w : W) (type home : ℕ) (k : Sort) → IsParam k → zeroed W null t b w type home k ≡ w
  not_zeroed b w type home k (inl p) = rw p refl
  not_zeroed b w type home k (inr p) = rw p refl

  abbrev Same : ℕ → ℕ → ℕ → Type 0
  Same v b e = (p : ℕ) → In p (graph.preds b) → (o : ℕ) × (def form v p ≡ some o) × (R o ≡ R e)

  -- no value of the block itself comes in unchanged from every predecessor
  abbrev Clean : ℕ → Type 0
  Clean c = (v e : ℕ) → entry v c ≡ some e → Same v c e → (info (R e)).home ≡ c → ⊥

  -- where the calls of b begin, after the blocks bs
  record Held (bs : List ℕ) (b : ℕ) (m : Mem W null t) : Type 0 where
    clean : (c : ℕ) → In c (b ∷ bs) → (c ≡ 0 → ⊥) → Clean c
    good : (v e : ℕ) → entry v b ≡ some e → (m.val (R e) ≡ m.var v) × SetBy b (b ∷ bs) [] (R e)

  ready : (bs : List ℕ) (b : ℕ) (m : Mem W null t) → Held bs b m → Ready b (b ∷ bs) [] [] (λ v. entry v b) m
  ready bs b m h = record { here = inl refl; good = h.good; made_here = λ x i. absurd i; heard = λ x i. absurd i }

  module _ (F : Facts t) (S : Counted t) (fresh : ℕ → ℕ → W) (any : ℕ → W) where
    at_start : Held [] 0 (record { val = zeros_set W null t 0 any; var = λ v. null (type_of graph v) })
    at_start = record {
      clean = λ c i n. absurd (n (in_one c 0 i));
      good = λ v e q. let f = F.first v e q in (rw (f.0, f.1, f.2) refl, (inl f.1, λ p s. absurd (nought_made f.0 s)));
    }

    module _ (bs : List ℕ) (p : ℕ) (m : Mem W null t) (i : ℕ) (h : Held bs p m) (lt : i < length (graph.dests p)) where
      abbrev after : Mem W null t
      after = do_acts W null t (fresh (length bs)) (acts p done) m

      abbrev to : ℕ
      to = get_or (graph.dests p) i 0

      abbrev brought : ℕ → W
      brought = bring W null t (params to) (args p i) after.val

      out : (v o : ℕ) → def form v p ≡ some o → (after.val (R o) ≡ after.var v) × In (info (R o)).home (p ∷ bs)
      out v o e = all_acts p (p ∷ bs) (fresh (length bs)) [] [] (λ w. entry w p) m (acts p done) (F.told p) (ready bs p m h) v o (sym (F.last p v) ∙ e)

      inside : In to (graph.dests p)
      inside = getD_in (graph.dests p) i lt

      declared : In p (graph.preds to)
      declared = S.all_declared p to inside

      clean_to : Clean to
      clean_to v e q sm home =
          let o = sm p declared in
          h.clean to (subst (λ (z : ℕ). In z (p ∷ bs)) (ap (λ (z : ℕ). (info z).home) o.2 ∙ home) (out v o.0 o.1).1) (λ z. S.none_enters_0 p (rw z at inside)) v e q sm home

      good_at : (v e : ℕ) → entry v to ≡ some e → Edge graph (λ q j. 0) form params v to e
          → (zeros_set W null t to brought (R e) ≡ after.var v) × SetBy to (to ∷ p ∷ bs) [] (R e)
      good_at v e q (same _ sm) =
          let o = sm p declared in
          let held = out v o.0 o.1 in
          let n : (info (R e)).home ≢ to = clean_to v e q sm in (
            zeros_other to brought (R e) n ∙ bring_other (params to) (args p i) after.val (R e) (λ x. n (F.params to (R e) x).0) ∙ ap after.val (sym o.2) ∙ held.0,
            (inr (subst (λ (z : ℕ). In (info z).home (p ∷ bs)) o.2 held.1), λ here _. absurd (n here)),
          )
      good_at v e q (kept _ r x k) =
          let o = k p declared in
          let a = o.2 i lt refl in
          let par = F.params to e x in
          rw r (
            not_zeroed to (brought e) (info e).type (info e).home (info e).sort par.1 ∙ bring_arg (params to) (args p i) after.val e a.0 a.1
                ∙ ap after.val a.2 ∙ (out v o.0 o.1).0,
            (inl par.0, λ _ s. absurd (not_made par.1 s)),
          )

      next : Held (p ∷ bs) to (enter W null t to (args p i) after)
      next = record { clean = in_cons to (p ∷ bs) (λ _. clean_to) h.clean; good = λ v e q. good_at v e q (F.edge to v e (S.all_sealed to (F.inside to p declared)) q) }

    along : {bs : List ℕ} {b : ℕ} {m : Mem W null t} → At W null t fresh any bs b m → Held bs b m
    along start = at_start
    along (go {bs} {p} {m} i a lt) = next bs p m i (along a) lt

pub faithful : (t : State) → Facts t → Counted t → (W : Type 0) (null : ℕ → W) → Faithful W null t
faithful t F S W null fresh any bs b m at r after v x e =
    at_use W null t b (b ∷ bs) (fresh (length bs)) [] [] (λ w. t.form.entry w b) m r after v x (rw e at (F.told b)) (ready W null t bs b m (along W null t F S fresh any at))
