-- Nothing is defined in a block once its branch was declared, in every session: a declaration sets the block's mark, no call clears it, and a definition is
-- refused where it stands. Assumes nothing.
use Prim.Native.Nat.{ℕ, zero, suc}
use mathlib.Core.Path.{◌≡◌, refl, sym, ap, ◌∙◌, subst}
use mathlib.Core.Logic.{◌≢◌, ◌⊎◌, inl, inr}
use mathlib.Core.Bool.{Bool, true, false, cond, not, ◌&&◌, ◌||◌}
use mathlib.Core.Option.{Option, none, some}
use mathlib.Core.List.{List, [], ◌∷◌, ◌++◌}
use lib.Dec.{eqb, ltb, leb}
use lib.ListN.{length, get_or}
use native.Mathlib.Omega.{arith}
use Rattle.entity.specs.Types.{type_count}
use Rattle.entity.specs.Limits.{limits}
use Rattle.definition.specs.Base.{has, any, is_some, up_from}
use Rattle.definition.specs.Form.{Graph, Form, def}
use Rattle.definition.specs.Read.{type_of}
use Rattle.definition.specs.Session.{Call, Done, State, Reply, no, ok, refuse◌when◌else◌, declared_anywhere, no_block, no_var, no_value, no_branch}
use Rattle.definition.specs.Session.{define, add_pred, seal_form}
use Rattle.definition.specs.Session.{mark_sealed, seal_each, define_answer, answered, reply, after, step, run, empty, session}
use Rattle.meaning.specs.Path.{In, OnTime, declares, defines}
use Rattle.meaning.proofs.Maps.{same?, put_at, put_other, eqb_eq, eqb_diff, false_true, bool?, and_both}
use Rattle.meaning.proofs.Lists.{in_cases, in_one}

nil_cons : {A : Type 0} (us bs : List A) (a : A) → [] ≡ us ++ a ∷ bs → ⊥
nil_cons [] bs a e = let z : ◌≡◌ {A = ℕ} 0 1 = cc in omega arith
nil_cons (u ∷ us) bs a e = let z : ◌≡◌ {A = ℕ} 0 1 = cc in omega arith

-- the last of a list that is split stands behind the split, or is where it is split
abbrev Apart : Done → Done → List Done → List Done → List Done → Type 0
Apart d k l us bs = (bs ≡ []) ⊎ ((r : List Done) × (bs ≡ r ++ d ∷ []) × (l ≡ us ++ k ∷ r))

apart : (d k : Done) (l us bs : List Done) → l ++ d ∷ [] ≡ us ++ k ∷ bs → Apart d k l us bs
apart d k [] [] bs e = let q : bs ≡ [] = cc in inl q
apart d k [] (u ∷ us) bs e = let q : [] ≡ us ++ k ∷ bs = cc in absurd (nil_cons us bs k q)
apart d k (x ∷ l) [] bs e = let q : bs ≡ l ++ d ∷ [] = cc in let p : x ≡ k = cc in inr (l, q, ap {B = List Done} (λ j. j ∷ l) p)
apart d k (x ∷ l) (u ∷ us) bs e = let q : l ++ d ∷ [] ≡ us ++ k ∷ bs = cc in let p : x ≡ u = cc in on p (apart d k l us bs q)
  where
    on : x ≡ u → Apart d k l us bs → Apart d k (x ∷ l) (u ∷ us) bs
    on p (inl i) = inl i
    on p (inr i) = inr (i.0, i.1, ap {B = List Done} (λ j. j ∷ l) p ∙ ap {B = List Done} (λ j. u ∷ j) i.2)

pub record Timed (g : Graph) (ds : List Done) : Type 0 where
  pub marked : (p : ℕ) (d : Done) → In d ds → declares p d ≡ true → g.declared p ≡ true
  pub on_time : OnTime ds

-- one call more
module _ (g : Graph) (ds : List Done) (h : Timed g ds) (d : Done) (g' : Graph) (stays : (p : ℕ) → g.declared p ≡ true → g'.declared p ≡ true)
    (sets : (p : ℕ) → declares p d ≡ true → g'.declared p ≡ true) (clear : (p : ℕ) → defines p d ≡ true → g.declared p ≡ false) where
  pub timed_more : Timed g' (ds ++ d ∷ [])
  timed_more = record {
    marked = λ p e i q. elim (in_cases e ds (d ∷ []) i) [
      | inl j ↦ stays p (h.marked p e j q)
      | inr j ↦ sets p
          (subst (λ (k : Done). declares p k ≡ true) (in_one e d j) q)
    ];
    on_time = λ p us bs k e q dec i. on p us bs k e dec i (apart d k ds us bs q);
  }
    where
      before : (us r : List Done) (k : Done) → ds ≡ us ++ k ∷ r → In k ds
      before [] r k q = subst (λ (l : List Done). In k l) (sym q) (inl refl)
      before (u ∷ us) r k q = subst (λ (l : List Done). In k l) (sym q) (inr (there us))
        where
          there : (us : List Done) → In k (us ++ k ∷ r)
          there [] = inl refl
          there (u ∷ us) = inr (there us)

      on : (p : ℕ) (us bs : List Done) (k e : Done) → declares p k ≡ true → In e bs → Apart d k ds us bs → defines p e ≡ false
      on p us bs k e dec i (inl q) = absurd (subst (λ (l : List Done). In e l) q i)
      on p us bs k e dec i (inr s) = elim (in_cases e s.0 (d ∷ []) (subst (λ (l : List Done). In e l) s.1 i)) [
        | inl j ↦ h.on_time p us s.0 k e s.2 dec j
        | inr j ↦ elim (bool? (defines p e)) [
          | inl y ↦ absurd (false_true (clear p (subst (λ (c : Done). defines p c ≡ true) (in_one e d j) y)) (h.marked p k (before us s.0 k s.2) dec))
          | inr n ↦ n
        ]
      ]

module _ (g : Graph) (s : Form) (ds : List Done) (c : Call) where
  abbrev said : ℕ → ℕ → Done
  said k n = record { asked = c; code = k; number = n }

  -- what a reply has to show
  pub record Marks (n : ℕ) (g' : Graph) : Type 0 where
    pub stays : (p : ℕ) → g.declared p ≡ true → g'.declared p ≡ true
    pub sets : (p : ℕ) → declares p (said 0 n) ≡ true → g'.declared p ≡ true
    pub clear : (p : ℕ) → defines p (said 0 n) ≡ true → g.declared p ≡ false

  abbrev pub Marking : Reply → Type 0
  Marking (no k) = k ≢ 0
  Marking (ok n g' s') = Marks n g'

  check : (k : ℕ) (b : Bool) (r : Reply) → k ≢ 0 → (b ≡ false → Marking r) → Marking (refuse◌when◌else◌ k b r)
  check k true r n f = n
  check k false r n f = f refl

  choose : (b : Bool) (r q : Reply) → Marking r → Marking q → Marking (cond b r q)
  choose true r q f u = f
  choose false r q f u = u

  -- neither declares nor defines, and no mark changes
  abbrev Quiet : Type 0
  Quiet = (n p : ℕ) → (declares p (said 0 n) ≡ false) × (defines p (said 0 n) ≡ false)

  quiet : Quiet → (n : ℕ) (g' : Graph) → ((p : ℕ) → g'.declared p ≡ g.declared p) → Marks n g'
  quiet q n g' same = record {
    stays = λ p e. same p ∙ e;
    sets = λ p e. absurd (false_true (q n p).0 e);
    clear = λ p e. absurd (false_true (q n p).1 e);
  }

  marks_define : (v x b : ℕ) → ((n p : ℕ) → declares p (said 0 n) ≡ false) → ((n p : ℕ) → defines p (said 0 n) ≡ true → b ≡ p) → Marking (define g s v x b)
  marks_define v x b un at =
      check 6 (no_var g s v || no_value g s x || no_block g s b) _ (omega arith) λ _. check 7 (not (eqb (s.info x).type (type_of g v))) _ (omega arith) λ _.
      check 20 (g.declared b) _ (omega arith) λ e.
      record { stays = λ p q. q; sets = λ p q. absurd (false_true (un x p) q); clear = λ p q. rw (sym (at x p q)) e }

  marks_answer : (v b : ℕ) (o : Option ℕ) → ((n p : ℕ) → declares p (said 0 n) ≡ false) → ((n p : ℕ) → defines p (said 0 n) ≡ true → b ≡ p)
      → Marking (define_answer g s v b o)
  marks_answer v b none un at = omega arith
  marks_answer v b (some x) un at = marks_define v x b un at

  marks_pred : (b p : ℕ) → ((n r : ℕ) → defines r (said 0 n) ≡ false) → ((n r : ℕ) → declares r (said 0 n) ≡ true → r ≡ p) → Marking (add_pred g s b p)
  marks_pred b p un at =
      check 6 (no_block g s b || no_branch g s p) _ (omega arith) λ _. check 8 (g.sealed b) _ (omega arith) λ _. check 13 (not (has b (g.dests p))) _
      (omega arith) λ _.
      check 12 (has p (g.preds b)) _ (omega arith) λ _.
      record {
        stays = λ r e. elim (same? r p) [ inl k ↦ put_at p true g.declared r k | inr n ↦ put_other p true g.declared r n ∙ e ];
        sets = λ r e. put_at p true g.declared r (at (suc (length (g.preds b))) r e);
        clear = λ r e. absurd (false_true (un (suc (length (g.preds b))) r) e);
      }

  each : (bs : List ℕ) (g₀ : Graph) (s₀ : Form) (p : ℕ) → (seal_each bs g₀ s₀).0.declared p ≡ g₀.declared p
  each [] g₀ s₀ p = refl
  each (b ∷ bs) g₀ s₀ p = by (g₀.sealed b) (each bs g₀ s₀ p) (each bs (mark_sealed g₀ b) (seal_form g₀ s₀ b) p)
    where
      by : (z : Bool) → (seal_each bs g₀ s₀).0.declared p ≡ g₀.declared p
          → (seal_each bs (mark_sealed g₀ b) (seal_form g₀ s₀ b)).0.declared p ≡ g₀.declared p
          → (elim z as (λ _. Graph × Form) [
            | true ↦ seal_each bs g₀ s₀
            | false ↦ seal_each bs (mark_sealed g₀ b)
                (seal_form g₀ s₀ b)
          ]).0.declared p ≡ g₀.declared p
      by true on off = on
      by false on off = off

  -- the kinds
  marking : (k : ℕ) → c.kind ≡ k → Marking (reply g s ds c.x c.y c.z k)
  marking zero e = omega arith
  marking (suc zero) e =
      check 4 (leb limits.blocks c.x) _ (omega arith) λ _. check 5 (ltb g.blocks c.x) _ (omega arith) λ _.
      choose (ltb c.x g.blocks) _ _ (quiet (λ n p. rw e (refl, refl)) _ _ (λ p. refl)) (quiet (λ n p. rw e (refl, refl)) _ _ (λ p. refl))
  marking (suc (suc zero)) e =
      check 4 (leb limits.variables c.x) _ (omega arith) λ _. check 5 (ltb (length g.types) c.x) _ (omega arith) λ _.
      check 6 (leb type_count c.y) _ (omega arith) λ _. check 7 (ltb c.x (length g.types) && not (eqb c.y (type_of g c.x))) _
      (omega arith) λ _.
      choose (ltb c.x (length g.types)) _ _ (quiet (λ n p. rw e (refl, refl)) _ _ (λ p. refl)) (quiet (λ n p. rw e (refl, refl)) _ _ (λ p. refl))
  marking (suc (suc (suc zero))) e =
      check 6 (no_block g s c.x || leb type_count c.y) _ (omega arith) λ _. check 9 (g.branch c.x) _ (omega arith) λ _.
      check 4 (leb limits.made s.makes) _ (omega arith) λ _. quiet (λ n p. rw e (refl, refl)) _ _ (λ p. refl)
  marking (suc (suc (suc (suc zero)))) e = marks_define c.x c.y c.z (λ n p. rw e refl) (λ n p q. eqb_eq c.z p (rw e at q))
  marking (suc (suc (suc (suc (suc zero))))) e = marks_answer c.x c.z (answered ds c.y) (λ n p. rw e refl) (λ n p q. eqb_eq c.z p (rw e at q))
  marking (suc (suc (suc (suc (suc (suc zero)))))) e = check 6 (no_var g s c.x || no_block g s c.y) _ (omega arith) λ _. quiet
      (λ n p. rw e (refl, refl)) _ _ (λ p. refl)
  marking (suc (suc (suc (suc (suc (suc (suc zero))))))) e =
      check 6 (no_block g s c.x) _ (omega arith) λ _. check 9 (g.branch c.x) _ (omega arith) λ _. quiet (λ n p. rw e (refl, refl)) _ _ (λ p. refl)
  marking (suc (suc (suc (suc (suc (suc (suc (suc zero)))))))) e =
      check 6 (no_branch g s c.x || no_block g s c.y) _ (omega arith) λ _. check 11 (declared_anywhere g c.x) _ (omega arith) λ _.
      check 10 (leb limits.dests (length (g.dests c.x))) _ (omega arith) λ _. quiet (λ n p. rw e (refl, refl)) _ _ (λ p. refl)
  marking (suc (suc (suc (suc (suc (suc (suc (suc (suc zero))))))))) e =
      marks_pred c.x c.y (λ n p. rw e refl) (λ n p q. sym (eqb_eq c.y p (rw e at q)))
  marking (suc (suc (suc (suc (suc (suc (suc (suc (suc (suc zero)))))))))) e =
      check 6 (no_block g s c.x || no_branch g s c.y) _ (omega arith) λ _. check 8 (g.sealed c.x) _ (omega arith) λ _.
      check 13 (not (has c.y (g.preds c.x))) _ (omega arith) λ _. quiet (λ n p. rw e (refl, refl)) _ _ (λ p. refl)
  marking (suc (suc (suc (suc (suc (suc (suc (suc (suc (suc (suc zero))))))))))) e =
      check 6 (no_block g s c.x) _ (omega arith) λ _. check 8 (g.sealed c.x) _ (omega arith) λ _. quiet (λ n p. rw e (refl, refl)) _ _ (λ p. refl)
  marking (suc (suc (suc (suc (suc (suc (suc (suc (suc (suc (suc (suc zero)))))))))))) e = quiet (λ n p. rw e (refl, refl)) _ _
      (each (up_from 0 g.blocks) g s)
  marking (suc (suc (suc (suc (suc (suc (suc (suc (suc (suc (suc (suc (suc zero))))))))))))) e = check 6 (no_block g s c.x) _ (omega arith) λ _. quiet
      (λ n p. rw e (refl, refl)) _ _ (λ p. refl)
  marking (suc (suc (suc (suc (suc (suc (suc (suc (suc (suc (suc (suc (suc (suc zero)))))))))))))) e = check 6 (no_block g s c.x) _
      (omega arith) λ _. quiet (λ n p. rw e (refl, refl)) _ _ (λ p. refl)
  marking (suc (suc (suc (suc (suc (suc (suc (suc (suc (suc (suc (suc (suc (suc (suc zero))))))))))))))) e =
      check 6 (no_block g s c.x || leb type_count c.y) _ (omega arith) λ _.
      check 17 (g.sealed c.x || not (eqb (length (g.preds c.x)) 0) || not (eqb (length (s.pending c.x)) 0)) _ (omega arith) λ _.
      check 18 (leb limits.own_params (s.owns c.x)) _ (omega arith) λ _. check 4 (leb limits.made s.makes) _ (omega arith) λ _.
      quiet (λ n p. rw e (refl, refl)) _ _ (λ p. refl)
  marking (suc (suc (suc (suc (suc (suc (suc (suc (suc (suc (suc (suc (suc (suc (suc (suc zero)))))))))))))))) e =
      let d = get_or (g.dests c.x) c.z 0 in
      let n = length (s.args c.x c.z) in
      check 6 (no_branch g s c.x || no_value g s c.y || leb (length (g.dests c.x)) c.z) _ (omega arith) λ _.
      check 11 (declared_anywhere g c.x) _ (omega arith) λ _. check 18 (leb (s.owns d) n) _ (omega arith) λ _.
      check 7 (not (eqb (s.info c.y).type (s.info (get_or (s.params d) n 0)).type)) _ (omega arith) λ _. quiet (λ n p. rw e (refl, refl)) _ _ (λ p. refl)
  marking (suc (suc (suc (suc (suc (suc (suc (suc (suc (suc (suc (suc (suc (suc (suc (suc (suc zero))))))))))))))))) e =
      check 6 (no_var g s c.x) _ (omega arith) λ _. check 19 (any (λ b. is_some (def s c.x b)) (up_from 0 g.blocks)) _ (omega arith) λ _.
      quiet (λ n p. rw e (refl, refl)) _ _ (λ p. refl)
  marking (suc (suc (suc (suc (suc (suc (suc (suc (suc (suc (suc (suc (suc (suc (suc (suc (suc (suc k)))))))))))))))))) e = omega arith

  -- a refused call neither declares nor defines
  refused_none : (k p : ℕ) (b : Bool) → k ≢ 0 → (b && eqb k 0 ≡ true) → ⊥
  refused_none k p b n e = false_true (eqb_diff k 0 n) (and_both b (eqb k 0) e).1

after_timed : (t : State) (c : Call) (r : Reply) → Timed t.graph t.done → Marking t.graph t.form t.done c r → Timed (after t c r).graph
    (after t c r).done
after_timed t c (no k) h n = timed_more t.graph t.done h (record { asked = c; code = k; number = 0 }) (after t c (no k)).graph (λ p e. e)
    (λ p e. absurd (refused_none t.graph t.form t.done c k p (eqb c.kind 9) n (and_both (eqb c.kind 9 && eqb k 0) (eqb c.y p) e).0))
    (λ p e. absurd (refused_none t.graph t.form t.done c k p (eqb c.kind 4 || eqb c.kind 5) n
    (and_both ((eqb c.kind 4 || eqb c.kind 5) && eqb k 0) (eqb c.z p) e).0))
after_timed t c (ok n g s) h m = timed_more t.graph t.done h (record { asked = c; code = 0; number = n }) (after t c (ok n g s)).graph m.stays
    m.sets m.clear

run_timed : (cs : List Call) (t : State) → Timed t.graph t.done → Timed (run t cs).graph (run t cs).done
run_timed [] t h = h
run_timed (c ∷ cs) t h =
    run_timed cs (step t c) (after_timed t c (reply t.graph t.form t.done c.x c.y c.z c.kind) h
    (marking t.graph t.form t.done c c.kind refl))

pub timely : (cs : List Call) → OnTime (session cs).done
timely cs = (run_timed cs empty (record { marked = λ p d i. absurd i; on_time = λ p us bs d e q. absurd (nil_cons us bs d q) })).on_time
