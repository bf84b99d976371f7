-- Marks change nothing but the set of recorded values: no other test and no other table reads them, so every function of the definition does to a state
-- without marks what it does to the state itself. Assumes nothing.
use Prim.Native.Nat.{ℕ, zero, suc}
use mathlib.Core.Path.{◌≡◌, refl, sym, ap, ◌∙◌}
use mathlib.Core.Logic.{◌≢◌, inl, inr}
use mathlib.Core.Bool.{Bool, true, false, cond, not, ◌&&◌, ◌||◌}
use mathlib.Core.Option.{Option, none, some}
use mathlib.Core.List.{List, [], ◌∷◌, ◌++◌, map}
use lib.Dec.{eqb, ltb, leb}
use lib.ListN.{length, get_or}
use Rattle.entity.specs.Types.{step_of, type_count}
use Rattle.entity.specs.Limits.{limits}
use Rattle.definition.specs.Base.{put, any, is_some, has, every, without, before, up_from}
use Rattle.definition.specs.Form.{Graph, Form, nought, def, with_marks, with_recorded, with_args, with_blocks}
use Rattle.definition.specs.Read.{Got, resolve, type_of, mark, mark_one, alias, place_block, feed, feed_all, new_param, wait, settle_left, single, Walk}
use Rattle.definition.specs.Read.{make, log_zero, emit_step, on_to, past, walk, read_all, fill, begin, read_past, read_on, read, depth, set_pending, settle_pending}
use Rattle.definition.specs.Session.{Call, Done, State, Reply, no, ok, refuse◌when◌else◌, declared_anywhere, no_block, no_var, no_value, no_branch}
use Rattle.definition.specs.Session.{define, define_answer, mark_sealed, seal_form, seal_each, added, answered, reply, tick, after, step, run, empty, session}
use Rattle.meaning.specs.Marks.{nothing, unmark, unmark_done, unmarked}
use Rattle.meaning.proofs.Maps.{bool?, eqb_eq, false_true}

abbrev bare_graph : Graph → Graph
bare_graph g = with_marks g (λ v. false)

abbrev bare : Form → Form
bare s = with_recorded s (λ x. false)

abbrev bare_got : {A : Type 0} → A × Form → A × Form
bare_got r = (r.0, bare r.1)

-- ---- reading

mark_bare : (v x : ℕ) (bs : List ℕ) (s : Form) → mark v x bs (bare s) ≡ bare (mark v x bs s)
mark_bare v x [] s = refl
mark_bare v x (b ∷ bs) s = ap (mark_one v x b) (mark_bare v x bs s)

walk_bare : (n : ℕ) (g : Graph) (s : Form) (v : ℕ) (seen : List ℕ) (b : ℕ) → walk n (bare_graph g) (bare s) v seen b ≡ walk n g s v seen b
walk_bare zero g s v seen b = refl
walk_bare (suc n) g s v seen b = at (has b seen) (single g b) (walk_bare n g s v (b ∷ seen))
  where
    at : (z : Bool) (q : Option ℕ) → ((p : ℕ) → walk n (bare_graph g) (bare s) v (b ∷ seen) p ≡ walk n g s v (b ∷ seen) p)
        → past (walk n (bare_graph g) (bare s) v (b ∷ seen)) (bare s) v b z q ≡ past (walk n g s v (b ∷ seen)) s v b z q
    at true q below = refl
    at false none below = refl
    at false (some p) below = to (def s v p)
      where
        to : (d : Option ℕ) → on_to (walk n (bare_graph g) (bare s) v (b ∷ seen)) b p d ≡ on_to (walk n g s v (b ∷ seen)) b p d
        to (some x) = refl
        to none = ap (λ (w : Walk). record { passed = b ∷ w.passed; end = w.end; met = w.met }) (below p)

feed_bare : (g : Graph) (b : ℕ) (ps rs : List ℕ) (us : ℕ → ℕ → List ℕ) → feed_all (bare_graph g) b ps rs us ≡ feed_all g b ps rs us
feed_bare g b [] rs us = refl
feed_bare g b (p ∷ ps) [] us = refl
feed_bare g b (p ∷ ps) (r ∷ rs) us = feed_bare g b ps rs (feed p b r (g.dests p) us)

emit_bare : (o : Option ℕ) (b : ℕ) (s : Form) → emit_step o b (bare s) ≡ bare (emit_step o b s)
emit_bare none b s = refl
emit_bare (some ty) b s = refl

settle_bare : (g : Graph) (b x : ℕ) (rs : List ℕ) (s : Form) (left : List ℕ)
    → settle_left (bare_graph g) b x rs (bare s) left ≡ bare_got (settle_left g b x rs s left)
settle_bare g b x rs s [] =
    let ty = (s.info x).type in
    ap {B = Got} (λ (t : Form). (t.next, alias b x t.next (make nought ty b t))) (emit_bare (step_of ty) b (log_zero g.call b (place_block b s)))
settle_bare g b x rs s (y ∷ ys) = by (every (eqb y) ys)
  where
    by : (z : Bool) → cond {A = Got} z (y, alias b x y (bare s)) (x, with_args (bare s) (feed_all (bare_graph g) b (g.preds b) rs s.args))
        ≡ bare_got (cond {A = Got} z (y, alias b x y s) (x, with_args s (feed_all g b (g.preds b) rs s.args)))
    by true = refl
    by false = ap {B = Got} (λ us. (x, with_args (bare s) us)) (feed_bare g b (g.preds b) rs s.args)

module _ (g : Graph) where
  -- rec' does without marks what rec does
  abbrev Alike : (ℕ → Form → Got) → (ℕ → Form → Got) → Type 0
  Alike rec rec' = (b : ℕ) (s : Form) → rec' b (bare s) ≡ bare_got (rec b s)

  module _ (rec rec' : ℕ → Form → Got) (R : Alike rec rec') where
    all_bare : (ps : List ℕ) (s : Form) → read_all rec' ps (bare s) ≡ bare_got (read_all rec ps s)
    all_bare [] s = refl
    all_bare (p ∷ ps) s =
        ap {B = List ℕ × Form} (λ (r : Got). let q = read_all rec' ps r.1 in (r.0 ∷ q.0, q.1)) (R p s)
        ∙ ap {B = List ℕ × Form} (λ (q : List ℕ × Form). ((rec p s).0 ∷ q.0, q.1)) (all_bare ps (rec p s).1)

    fill_bare : (b x : ℕ) (s : Form) → fill rec' (bare_graph g) b x (bare s) ≡ bare_got (fill rec g b x s)
    fill_bare b x s =
        let q = read_all rec (g.preds b) s in
        ap {B = Got} (λ (r : List ℕ × Form). settle_left (bare_graph g) b x r.0 r.1 (without x (map (resolve r.1) r.0))) (all_bare (g.preds b) s)
        ∙ settle_bare g b x q.0 q.1 (without x (map (resolve q.1) q.0))

    begin_bare : (v c x : ℕ) (bs : List ℕ) (s : Form) (z : Bool) → begin rec' (bare_graph g) v c x bs (bare s) z ≡ bare_got (begin rec g v c x bs s z)
    begin_bare v c x bs s true = ap (fill rec' (bare_graph g) c x) (mark_bare v x bs s) ∙ fill_bare c x (mark v x bs s)
    begin_bare v c x bs s false = ap {B = Got} (λ (t : Form). (x, t)) (mark_bare v x bs (wait v c x s))

    past_bare : (v : ℕ) (s : Form) (over : List ℕ) (c : ℕ) (m : Option ℕ)
        → read_past rec' (bare_graph g) v (bare s) over c m ≡ bare_got (read_past rec g v s over c m)
    past_bare v s over c (some x) = ap {B = Got} (λ (t : Form). (x, t)) (mark_bare v x over s)
    past_bare v s over c none = begin_bare v c s.next (before c over) (new_param g v c s) (g.sealed c)

    on_bare : (v b : ℕ) (s : Form) (d : Option ℕ) → read_on rec' (bare_graph g) v b (bare s) d ≡ bare_got (read_on rec g v b s d)
    on_bare v b s (some x) = refl
    on_bare v b s none =
        let w = walk (suc g.blocks) g s v [] b in
        ap (λ (w : Walk). read_past rec' (bare_graph g) v (bare s) w.passed w.end w.met) (walk_bare (suc g.blocks) g s v [] b)
        ∙ past_bare v s w.passed w.end w.met

  read_bare : (v n : ℕ) → Alike (read n g v) (read n (bare_graph g) v)
  read_bare v zero b s = refl
  read_bare v (suc n) b s = on_bare (read n g v) (read n (bare_graph g) v) (read_bare v n) v b s (def s v b)

  settled_bare : (b : ℕ) (ws : List (ℕ × ℕ)) (s : Form) → settle_pending (bare_graph g) b ws (bare s) ≡ bare (settle_pending g b ws s)
  settled_bare b [] s = refl
  settled_bare b (w ∷ ws) s =
      let v = w.0 in
      let one = fill_bare (read (depth g) g v) (read (depth g) (bare_graph g) v) (read_bare v (depth g)) b w.1 s in
      ap (λ (r : Got). settle_pending (bare_graph g) b ws r.1) one
      ∙ settled_bare b ws (fill (read (depth g) g v) g b w.1 s).1

seal_bare : (g : Graph) (s : Form) (b : ℕ) → seal_form (bare_graph g) (bare s) b ≡ bare (seal_form g s b)
seal_bare g s b = settled_bare (mark_sealed g b) b (s.pending b) (set_pending b [] s)

each_bare : (bs : List ℕ) (g : Graph) (s : Form)
    → seal_each bs (bare_graph g) (bare s) ≡ (bare_graph (seal_each bs g s).0, bare (seal_each bs g s).1)
each_bare [] g s = refl
each_bare (b ∷ bs) g s = by (g.sealed b) (each_bare bs g s)
    (ap (seal_each bs (mark_sealed (bare_graph g) b)) (seal_bare g s b) ∙ each_bare bs (mark_sealed g b) (seal_form g s b))
  where
    by : (z : Bool) → seal_each bs (bare_graph g) (bare s) ≡ (bare_graph (seal_each bs g s).0, bare (seal_each bs g s).1)
        → let r = seal_each bs (mark_sealed g b) (seal_form g s b) in
        seal_each bs (mark_sealed (bare_graph g) b) (seal_form (bare_graph g) (bare s) b) ≡ (bare_graph r.0, bare r.1)
        → let q = elim z as (λ _. Graph × Form) [ true ↦ seal_each bs g s | false ↦ seal_each bs (mark_sealed g b) (seal_form g s b) ] in
        ◌≡◌ {A = Graph × Form} (elim z as (λ _. Graph × Form) [
          | true ↦ seal_each bs (bare_graph g) (bare s)
          | false ↦ seal_each bs (mark_sealed (bare_graph g) b) (seal_form (bare_graph g) (bare s) b)
        ]) (bare_graph q.0, bare q.1)
    by true on off = on
    by false on off = off

-- ---- the calls

answered_bare : (ds : List Done) (i : ℕ) → answered (map unmark_done ds) i ≡ answered ds i
answered_bare [] i = refl
answered_bare (d ∷ ds) zero = elim (bool? (eqb d.asked.kind 17)) [ inl y ↦ rw (y, eqb_eq d.asked.kind 17 y) refl | inr n ↦ rw n refl ]
answered_bare (d ∷ ds) (suc i) = answered_bare ds i

abbrev bare_reply : Reply → Reply
bare_reply (no k) = no k
bare_reply (ok n g s) = ok n (bare_graph g) (bare s)

check : (k : ℕ) (b : Bool) (r r' : Reply) → r' ≡ bare_reply r → refuse◌when◌else◌ k b r' ≡ bare_reply (refuse◌when◌else◌ k b r)
check k true r r' e = refl
check k false r r' e = e

choose : (b : Bool) (r q r' q' : Reply) → r' ≡ bare_reply r → q' ≡ bare_reply q → cond b r' q' ≡ bare_reply (cond b r q)
choose true r q r' q' e f = e
choose false r q r' q' e f = f

module _ (g : Graph) (s : Form) (ds : List Done) (x y z : ℕ) where
  define_bare : (v a b : ℕ) → define (bare_graph g) (bare s) v a b ≡ bare_reply (define g s v a b)
  define_bare v a b =
      check 6 (no_var g s v || no_value g s a || no_block g s b) _ _
      (check 7 (not (eqb (s.info a).type (type_of g v))) _ _ (check 20 (g.declared b) _ _ refl))

  answer_bare : (v b : ℕ) (o : Option ℕ) → define_answer (bare_graph g) (bare s) v b o ≡ bare_reply (define_answer g s v b o)
  answer_bare v b none = refl
  answer_bare v b (some a) = define_bare v a b

  abbrev Same : ℕ → Type 0
  Same k = reply (bare_graph g) (bare s) (map unmark_done ds) x y z k ≡ bare_reply (reply g s ds x y z k)

  reply_bare : (k : ℕ) → k ≢ 17 → Same k
  reply_bare zero n = refl
  reply_bare (suc zero) n = check 4 (leb limits.blocks x) _ _ (check 5 (ltb g.blocks x) _ _ (choose (ltb x g.blocks) _ _ _ _ refl (by (eqb x 0))))
    where
      by : (u : Bool) → ok x (with_blocks (bare_graph g) (suc x)) (cond u (place_block 0 (bare s)) (bare s))
          ≡ bare_reply (ok x (with_blocks g (suc x)) (cond u (place_block 0 s) s))
      by true = refl
      by false = refl
  reply_bare (suc (suc zero)) n =
      check 4 (leb limits.variables x) _ _ (check 5 (ltb (length g.types) x) _ _ (check 6 (leb type_count y) _ _
      (check 7 (ltb x (length g.types) && not (eqb y (type_of g x))) _ _ (choose (ltb x (length g.types)) _ _ _ _ refl refl))))
  reply_bare (suc (suc (suc zero))) n =
      check 6 (no_block g s x || leb type_count y) _ _ (check 9 (g.branch x) _ _ (check 4 (leb limits.made s.makes) _ _ refl))
  reply_bare (suc (suc (suc (suc zero)))) n = define_bare x y z
  reply_bare (suc (suc (suc (suc (suc zero))))) n =
      ap (define_answer (bare_graph g) (bare s) x z) (answered_bare ds y) ∙ answer_bare x z (answered ds y)
  reply_bare (suc (suc (suc (suc (suc (suc zero)))))) n = check 6 (no_var g s x || no_block g s y) _ _
      (ap {B = Reply} (λ (r : Got). ok r.0 (bare_graph g) r.1) (read_bare g x (depth g) y s))
  reply_bare (suc (suc (suc (suc (suc (suc (suc zero))))))) n = check 6 (no_block g s x) _ _ (check 9 (g.branch x) _ _ refl)
  reply_bare (suc (suc (suc (suc (suc (suc (suc (suc zero)))))))) n =
      check 6 (no_branch g s x || no_block g s y) _ _ (check 11 (declared_anywhere g x) _ _ (check 10 (leb limits.dests (length (g.dests x))) _ _ refl))
  reply_bare (suc (suc (suc (suc (suc (suc (suc (suc (suc zero))))))))) n =
      check 6 (no_block g s x || no_branch g s y) _ _ (check 8 (g.sealed x) _ _
      (check 13 (not (has x (g.dests y))) _ _ (check 12 (has y (g.preds x)) _ _ refl)))
  reply_bare (suc (suc (suc (suc (suc (suc (suc (suc (suc (suc zero)))))))))) n =
      check 6 (no_block g s x || no_branch g s y) _ _ (check 8 (g.sealed x) _ _ (check 13 (not (has y (g.preds x))) _ _ refl))
  reply_bare (suc (suc (suc (suc (suc (suc (suc (suc (suc (suc (suc zero))))))))))) n = check 6 (no_block g s x) _ _ (check 8 (g.sealed x) _ _
      (ap {B = Reply} (λ (t : Form). ok (added g s t) (mark_sealed (bare_graph g) x) t) (seal_bare g s x)))
  reply_bare (suc (suc (suc (suc (suc (suc (suc (suc (suc (suc (suc (suc zero)))))))))))) n =
      ap {B = Reply} (λ (r : Graph × Form). ok (added g s r.1) r.0 r.1) (each_bare (up_from 0 g.blocks) g s)
  reply_bare (suc (suc (suc (suc (suc (suc (suc (suc (suc (suc (suc (suc (suc zero))))))))))))) n = check 6 (no_block g s x) _ _ refl
  reply_bare (suc (suc (suc (suc (suc (suc (suc (suc (suc (suc (suc (suc (suc (suc zero)))))))))))))) n = check 6 (no_block g s x) _ _ refl
  reply_bare (suc (suc (suc (suc (suc (suc (suc (suc (suc (suc (suc (suc (suc (suc (suc zero))))))))))))))) n =
      check 6 (no_block g s x || leb type_count y) _ _
      (check 17 (g.sealed x || not (eqb (length (g.preds x)) 0) || not (eqb (length (s.pending x)) 0)) _ _
      (check 18 (leb limits.own_params (s.owns x)) _ _ (check 4 (leb limits.made s.makes) _ _ refl)))
  reply_bare (suc (suc (suc (suc (suc (suc (suc (suc (suc (suc (suc (suc (suc (suc (suc (suc zero)))))))))))))))) n =
      let d = get_or (g.dests x) z 0 in
      let m = length (s.args x z) in
      check 6 (no_branch g s x || no_value g s y || leb (length (g.dests x)) z) _ _ (check 11 (declared_anywhere g x) _ _
      (check 18 (leb (s.owns d) m) _ _ (check 7 (not (eqb (s.info y).type (s.info (get_or (s.params d) m 0)).type)) _ _ refl)))
  reply_bare (suc (suc (suc (suc (suc (suc (suc (suc (suc (suc (suc (suc (suc (suc (suc (suc (suc zero))))))))))))))))) n = absurd (n refl)
  reply_bare (suc (suc (suc (suc (suc (suc (suc (suc (suc (suc (suc (suc (suc (suc (suc (suc (suc (suc k)))))))))))))))))) n = refl

-- ---- a session

-- one answer more, which becomes e without marks
answer_more : (ds : List Done) (d e : Done) → unmark_done d ≡ e → map unmark_done (ds ++ d ∷ []) ≡ map unmark_done ds ++ e ∷ []
answer_more [] d e q = ap {B = List Done} (λ a. a ∷ []) q
answer_more (a ∷ ds) d e q = ap {B = List Done} (λ l. unmark_done a ∷ l) (answer_more ds d e q)

module _ (t : State) (c : Call) where
  abbrev g : Graph
  g = t.graph

  abbrev s : Form
  s = t.form

  abbrev said : ℕ → ℕ → Done
  said k n = record { asked = c; code = k; number = n }

  abbrev with_done : Graph → Form → List Done → State
  with_done h f ds = record { graph = tick (bare_graph h); form = bare f; done = ds }

  -- a call of another kind
  other : (r : Reply) → eqb c.kind 17 ≡ false → unmarked (after t c r) ≡ after (unmarked t) c (bare_reply r)
  other (no k) n = ap (with_done g s) (answer_more t.done (said k 0) (said k 0) (rw n refl))
  other (ok m h f) n = ap (with_done h f) (answer_more t.done (said 0 m) (said 0 m) (rw n refl))

  -- a mark, refused or not
  marked : (a b : Bool) → eqb c.kind 17 ≡ true
      → unmarked (after t c (refuse◌when◌else◌ 6 a (refuse◌when◌else◌ 19 b (ok c.x (with_marks t.graph (put c.x true t.graph.marks)) t.form))))
      ≡ step (unmarked t) nothing
  marked true b y = ap (with_done g s) (answer_more t.done (said 6 0) _ (rw y refl))
  marked false true y = ap (with_done g s) (answer_more t.done (said 19 0) _ (rw y refl))
  marked false false y = ap (with_done g s) (answer_more t.done (said 0 c.x) _ (rw y refl))

  step_bare : unmarked (step t c) ≡ step (unmarked t) (unmark c)
  step_bare = elim (bool? (eqb c.kind 17)) [
    | inl y ↦ ap (λ (k : ℕ). unmarked (after t c (reply g s t.done c.x c.y c.z k))) (eqb_eq c.kind 17 y)
        ∙ marked (no_var g s c.x) (any (λ b. is_some (def s c.x b)) (up_from 0 g.blocks)) y
        ∙ sym (ap (λ (z : Bool). step (unmarked t) (cond z nothing c)) y)
    | inr n ↦ other (reply g s t.done c.x c.y c.z c.kind) n
        ∙ ap (after (unmarked t) c) (sym (reply_bare g s t.done c.x c.y c.z c.kind (λ e. false_true n (ap (λ (k : ℕ). eqb k 17) e))))
        ∙ sym (ap (λ (z : Bool). step (unmarked t) (cond z nothing c)) n)
  ]

run_bare : (cs : List Call) (t : State) → unmarked (run t cs) ≡ run (unmarked t) (map unmark cs)
run_bare [] t = refl
run_bare (c ∷ cs) t = run_bare cs (step t c) ∙ ap (λ (u : State). run u (map unmark cs)) (step_bare t c)

pub marks_silent : (cs : List Call) → unmarked (session cs) ≡ session (map unmark cs)
marks_silent cs = run_bare cs empty
