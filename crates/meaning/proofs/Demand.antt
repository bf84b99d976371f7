-- Demand 3, of every session: each call keeps the invariant of a session, and with the suppositions that gives the facts which hold along a path. Assumes
-- nothing.
use Prim.Native.Nat.{ℕ, suc, ◌<◌}
use mathlib.Core.Path.{◌≡◌, refl, sym, ap, ◌∙◌}
use mathlib.Core.Logic.{◌≢◌, ◌⊎◌, inl, inr, ⊎_map}
use mathlib.Core.Bool.{true}
use mathlib.Core.Option.{Option, none, some}
use mathlib.Core.List.{List, [], ◌∷◌, ◌++◌, append-nil}
use lib.ListN.{length, get_or, take, drop, length-append}
use native.Mathlib.Omega.{arith}
use native.Mathlib.Nat.{not-suc-le-zero}
use Rattle.definition.specs.Base.{or_else}
use Rattle.definition.specs.Form.{Graph, Form, Sort, made, param, caller}
use Rattle.definition.specs.Read.{resolve}
use Rattle.definition.specs.Session.{Call, Done, State, Reply, no, ok, reply, tick, after, step, empty, run, session}
use Rattle.meaning.specs.Path.{In, Act, makes, gives, uses, acts, callers, Counted, Fed, Right, Demand3}
use Rattle.meaning.proofs.Maps.{eqb_diff, some_none}
use Rattle.meaning.proofs.Facts.{arg_of, Edge, same, kept, Facts, IsParam, OwnParam}
use Rattle.meaning.proofs.Alias.{tree_start, follow_root}
use Rattle.meaning.proofs.Lists.{getD_in, nil_of, in_right, in_cases, snds, drop_first, take_first, arg_skip}
use Rattle.meaning.proofs.Inv.{grow_refl, Frame, frame, cut, pending, kept_par}
use Rattle.meaning.proofs.Sealing.{idle}
use Rattle.meaning.proofs.Story.{cur_or, told_all}
use Rattle.meaning.proofs.Graphs.{wider_inv}
use Rattle.meaning.proofs.Whole.{Whole, silent, Fine, fine}
use Rattle.meaning.proofs.Along.{faithful}

abbrev pub Good : Type 0 → State → Type 0
Good E t = Whole E t.graph t.form t.done

pub whole_tick : (E : Type 0) (g : Graph) (s : Form) (ds : List Done) → Whole E g s ds → Whole E (tick g) s ds
whole_tick E g s ds h = record {
  caller = h.caller;
  gifts = h.gifts;
  kp = h.kp;
  inv = wider_inv g (frame E h.caller) s h.kp idle h.inv (suc g.call) g.blocks g.types g.branch g.marks (omega arith)
      (λ w l. (l, refl));
  sound = h.sound;
  hist = h.hist;
  own = h.own;
  tells = h.tells;
}

-- a refused call
pub refused : (E : Type 0) (g : Graph) (s : Form) (ds : List Done) (c : Call) (k : ℕ) → k ≢ 0 → Whole E g s ds
    → Whole E g s (ds ++ record { asked = c; code = k; number = 0 } ∷ [])
refused E g s ds c k n h = silent E g s ds h (record { asked = c; code = k; number = 0 }) (λ b. rw (eqb_diff k 0 n) refl) (λ p i. rw (eqb_diff k 0 n) refl)
    g s h.kp h.inv h.sound h.hist (grow_refl s)

pub after_good : (E : Type 0) (t : State) (c : Call) (h : Good E t) (r : Reply) → Fine E t.graph t.form t.done h c r → Good E (after t c r)
after_good E t c h (no k) f = whole_tick E t.graph t.form (t.done ++ record { asked = c; code = k; number = 0 } ∷ []) (refused E t.graph t.form t.done c k f h)
after_good E t c h (ok n g s) f = whole_tick E g s (t.done ++ record { asked = c; code = 0; number = n } ∷ []) f

pub run_good : (E : Type 0) (cs : List Call) (t : State) → Good E t → Good E (run t cs)
run_good E [] t h = h
run_good E (c ∷ cs) t h =
    run_good E cs (step t c) (after_good E t c h (reply t.graph t.form t.done c.x c.y c.z c.kind)
    (fine E t.graph t.form t.done h c c.kind refl))

pub empty_good : (E : Type 0) → Good E empty
empty_good E = record {
  caller = record { params = λ b. []; args = λ p i. [] };
  gifts = λ p i. refl;
  kp = λ b. [];
  inv = record {
    known = λ w b e q. absurd (some_none q refl);
    edge = λ _ w b e q. absurd (some_none q refl);
    first = λ _ w b e q _. absurd (some_none q refl);
    pend = λ w b x i. absurd i;
    listed = record { split = λ b. refl; pars = λ b x i. absurd i; nodup = λ b. tt; bare = λ b e. refl };
    owned = record { count = λ b. refl; few = λ b. omega arith; once = λ b. tt; each = λ b x i. absurd i; all = λ x l. absurd (not-suc-le-zero l) };
    passed = record { fed = λ p i l. absurd (not-suc-le-zero l); unfed = λ p i n. refl; there = λ p i l. refl; short = λ p i. omega arith };
    gave = record { below = λ p i j l. absurd (not-suc-le-zero l); typed = λ p i j l. absurd (not-suc-le-zero l) };
    aliased = record { tree = tree_start 0; fresh = λ x l. refl; roots = λ x n. refl };
  };
  sound = record { range = λ b p i. absurd i; nodup = λ b. tt; inside = λ b p i. absurd i; names = λ b p i. absurd i };
  hist = λ b p i. absurd i;
  own = λ b v. refl;
  tells = λ b. tt;
}

made_param : {k : Sort} → k ≡ made → k ≡ param → ⊥
made_param p q = let z : ◌≡◌ {A = ℕ} 0 1 = cc in omega arith

caller_not_param : {k : Sort} → k ≡ caller → k ≡ param → ⊥
caller_not_param p q = let z : ◌≡◌ {A = ℕ} 0 1 = cc in omega arith

-- nothing is pending in a sealed block, so all its parameters are the caller's or kept
pub all_kept : (E : Type 0) (t : State) (h : Good E t) (b : ℕ) → t.graph.sealed b ≡ true → t.form.params b ≡ h.caller.params b ++ h.kp b
all_kept E t h b e = h.inv.listed.split b ∙ rw e (ap (λ (l : List ℕ). h.caller.params b ++ l) (append-nil (h.kp b)))

-- the first ones are the caller's
pub callers_are : (E : Type 0) (t : State) (h : Good E t) (b : ℕ) → callers t.form b ≡ h.caller.params b
callers_are E t h b =
    let r = h.kp b ++ snds (pending t.graph t.form idle b) in
    ap (λ (n : ℕ). take n (t.form.params b)) (sym (h.inv.owned.count b)) ∙ ap (take (length (h.caller.params b))) (h.inv.listed.split b)
    ∙ take_first (h.caller.params b) r

-- the facts, where all is as supposed
module _ (t : State) (h : Good (Unit {0}) t) (S : Counted t) where
  abbrev F : Frame
  F = frame (Unit {0}) h.caller

  -- the caller's arguments are as many as the caller's parameters
  counts : (p i : ℕ) → i < length (t.graph.dests p) → length (h.caller.args p i) ≡ length (h.caller.params (get_or (t.graph.dests p) i 0))
  counts p i lt = ap length (h.gifts p i) ∙ S.own_counts p i lt ∙ sym (h.inv.owned.count (get_or (t.graph.dests p) i 0))

  -- a parameter that is kept is not the caller's
  not_owned : (b e : ℕ) → In e (h.kp b) → In e (h.caller.params b) → ⊥
  not_owned b e x i = caller_not_param (h.inv.owned.each b e i).1
      (h.inv.listed.pars b e (kept_par t.graph F t.form h.kp idle h.inv b e x)).sort

  -- so with them each kept parameter has the same argument
  whole_arg : (b e p i a : ℕ) → t.graph.sealed b ≡ true → In e (h.kp b) → In p (t.graph.preds b) → i < length (t.graph.dests p)
      → get_or (t.graph.dests p) i 0 ≡ b
      → arg_of (h.kp b) (drop (cut F p i) (t.form.args p i)) e ≡ some a → arg_of (t.form.params b) (t.form.args p i) e ≡ some a
  whole_arg b e p i a y x ip lt q f =
      let r = h.inv.passed.fed p i lt (rw q y) (rw q ip) in
      let was = ap (drop (cut F p i)) r.1 ∙ drop_first (h.caller.args p i) r.0 in
      rw (all_kept (Unit {0}) t h b y, r.1)
      (arg_skip (h.caller.params b) (h.kp b) (h.caller.args p i) r.0 e (not_owned b e x)
      (counts p i lt ∙ ap (λ (d : ℕ). length (h.caller.params d)) q) ∙ rw was at f)

  edges : (b v e : ℕ) → Edge t.graph (cut F) t.form h.kp v b e → Edge t.graph (λ p i. 0) t.form t.form.params v b e
  edges b v e (same y f) = same y f
  edges b v e (kept y r x f) =
      kept y r (rw (all_kept (Unit {0}) t h b y) (in_right e (h.caller.params b) (h.kp b) x))
      (λ p ip. let o = f p ip in (o.0, o.1, λ i lt q. let a = o.2 i lt q in (a.0, whole_arg b e p i a.0 y x ip lt q a.1, a.2)))

  root : (x : ℕ) → ((t.form.info x).sort ≡ param → ⊥) → resolve t.form x ≡ x
  root x n = follow_root t.form.target t.form.next x (h.inv.aliased.roots x n)

  -- what a definition takes
  taken : (b v x : ℕ) (q r : List Act) → acts b t.done ≡ q ++ gives v x ∷ r
      → (In (makes x) q ⊎ ((w : ℕ) × In (uses w x) q)) ⊎ OwnParam t.graph t.form b x
  taken b v x q r e = ⊎_map (λ k. k) (λ i. let k = h.inv.owned.each b x (rw (callers_are (Unit {0}) t h b) at i) in
      (k.2, k.1, root x (λ z. caller_not_param k.1 z))) (S.own_values b v x q r e)

  any_param : (b x : ℕ) → In x (t.form.params b) → ((t.form.info x).home ≡ b) × IsParam (t.form.info x).sort
  any_param b x i = elim (in_cases x (h.caller.params b) (h.kp b ++ snds (pending t.graph t.form idle b)) (rw (h.inv.listed.split b) at i)) [
    | inl j ↦ let k = h.inv.owned.each b x j in (k.2, inr k.1)
    | inr j ↦ let r = h.inv.listed.pars b x j in (r.home, inl r.sort)
  ]

  facts : Facts t
  facts = record {
    told = λ b. told_all t.graph t.form (λ x e. root x (λ q. made_param e q)) b (acts b t.done) (taken b)
        (λ v. t.form.entry v b) [] [] [] (acts b t.done) refl (λ x i. absurd i) (λ w x i. absurd i) (h.tells b);
    last = λ b v. ap (λ (o : Option ℕ). or_else o (t.form.entry v b)) (h.own b v) ∙ sym (cur_or (λ w. t.form.entry w b) (acts b t.done) (λ w. none) v);
    inside = h.sound.inside;
    edge = λ b v e z q. elim (h.inv.edge tt v b e q) [ inl i ↦ absurd (rw z at i) | inr k ↦ edges b v e k ];
    first = λ v e q. elim (h.inv.first tt v 0 e q (nil_of (t.graph.preds 0) (λ p i. S.none_enters_0 p (h.sound.names 0 p i)))) [
      | inl i ↦ absurd (rw (S.all_sealed 0 (h.inv.known v 0 e q).1) at i)
      | inr n ↦ (n.sort, n.home, n.type)
    ];
    params = any_param;
  }

  fed : Fed t
  fed p i lt =
      let b = get_or (t.graph.dests p) i 0 in
      let ip = S.all_declared p b (getD_in (t.graph.dests p) i lt) in
      let z = S.all_sealed b (h.sound.inside b p ip) in
      let r = h.inv.passed.fed p i lt z ip in
      omega (
        arith,
        ap length r.1,
        length-append (h.caller.args p i) r.0,
        r.2,
        counts p i lt,
        ap length
            (all_kept (Unit {0}) t h b z),
        length-append (h.caller.params b) (h.kp b),
      )

pub counted_right : (cs : List Call) → Counted (session cs) → Right (session cs)
counted_right cs S =
    let h = run_good (Unit {0}) cs empty (empty_good (Unit {0})) in
    (λ W null. faithful (session cs) (facts (session cs) h S) S W null, fed (session cs) h S)

pub demand_3 : Demand3
demand_3 cs S = counted_right cs (record {
  all_sealed = S.all_sealed;
  none_enters_0 = S.none_enters_0;
  all_declared = S.all_declared;
  own_values = S.own_values;
  own_counts = S.own_args.0;
})
