-- The invariant of reading, and that recording a definition, making a value and settling a parameter as an alias keep it: nothing that is recorded is ever
-- replaced. The graph is fixed. Assumes nothing.
use Prim.Native.Nat.{ℕ, ◌<◌, ◌≤◌, suc}
use mathlib.Core.Path.{◌≡◌, refl, sym, ap, ◌∙◌, subst}
use mathlib.Core.Logic.{◌≢◌, ◌⊎◌, inl, inr, ⊎_map}
use mathlib.Core.Bool.{Bool, true, false, cond}
use mathlib.Core.Option.{Option, some}
use mathlib.Core.List.{List, [], ◌∷◌, ◌++◌, append_assoc}
use lib.ListN.{length, get_or, drop}
use native.Mathlib.Omega.{arith}
use native.Mathlib.Nat.{le_trans}
use Rattle.entity.specs.Limits.{limits}
use Rattle.definition.specs.Base.{put, without}
use Rattle.definition.specs.Form.{Graph, Form, Info, Sort, param, nought, caller, def}
use Rattle.definition.specs.Read.{resolve, type_of, mark_one, make, alias}
use Rattle.meaning.specs.Path.{In}
use Rattle.meaning.specs.Stored.{Nodup}
use Rattle.meaning.proofs.Maps.{same?, put_same, put_other, put_at, put₂_at, put₂_other, here?, put₂_is}
use Rattle.meaning.proofs.Facts.{arg_of, Edge, same, kept}
use Rattle.meaning.proofs.Alias.{Tree, tree_suc, tree_alias, follow_more, follow_root, follow_keep, follow_move, follow_same}
use Rattle.meaning.proofs.Lists.{getD_in, in_left, in_right, nodup_apart, without_in, without_mid, without_none, without_append, nodup_without, snds}
use Rattle.meaning.proofs.Lists.{or_mono}
use Rattle.meaning.proofs.Lists.{in_one, in_snds}

pub nought_param : {k : Sort} → k ≡ nought → k ≡ param → ⊥
nought_param p q = let z : ◌≡◌ {A = ℕ} 0 1 = cc in omega arith

pub caller_param : {k : Sort} → k ≡ caller → k ≡ param → ⊥
caller_param p q = let z : ◌≡◌ {A = ℕ} 0 1 = cc in omega arith

-- What is never undone: own definitions stay, entries stay, what resolves alike goes on resolving alike, values stay. Each part speaks of what it reads, so
-- that a change of other tables is none.
pub record Grows (o o' e e' : ℕ → ℕ → Option ℕ) (r r' : ℕ → ℕ) (i i' : ℕ → Info) (n n' : ℕ) : Type 0 where
  pub own : (w b : ℕ) → o' w b ≡ o w b
  pub entry : (w b x : ℕ) → e w b ≡ some x → e' w b ≡ some x
  pub res : (x y : ℕ) → r x ≡ r y → r' x ≡ r' y
  pub info : (x : ℕ) → x < n → i' x ≡ i x
  pub more : n ≤ n'

abbrev pub Grow : Form → Form → Type 0
Grow s s' = Grows s.own s'.own s.entry s'.entry (resolve s) (resolve s') s.info s'.info s.next s'.next

pub grow_refl : (s : Form) → Grow s s
grow_refl s = record { own = λ w b. refl; entry = λ w b e q. q; res = λ x y q. q; info = λ x l. refl; more = omega arith }

pub grow_trans : (s t u : Form) → Grow s t → Grow t u → Grow s u
grow_trans s t u p q = record {
  own = λ w b. q.own w b ∙ p.own w b;
  entry = λ w b e h. q.entry w b e (p.entry w b e h);
  res = λ x y h. q.res x y (p.res x y h);
  info = λ x l. q.info x (le_trans l p.more) ∙ p.info x l;
  more = le_trans p.more q.more;
}

-- Also a definition keeps the values that there are, and what they are.
pub record Stays (i i' : ℕ → Info) (n n' : ℕ) : Type 0 where
  pub info : (x : ℕ) → x < n → i' x ≡ i x
  pub more : n ≤ n'

abbrev pub Later : Form → Form → Type 0
Later s t = Stays s.info t.info s.next t.next

pub later_refl : (s : Form) → Later s s
later_refl s = record { info = λ x l. refl; more = omega arith }

pub later_trans : (s t u : Form) → Later s t → Later t u → Later s u
later_trans s t u p q = record { info = λ x l. q.info x (le_trans l p.more) ∙ p.info x l; more = le_trans p.more q.more }

pub later_make : (s : Form) (k : Sort) (ty b : ℕ) → Later s (make k ty b s)
later_make s k ty b = record { info = λ x l. put_other s.next (record { sort = k; type = ty; home = b }) s.info x (omega arith); more = omega arith }

pub later_grow : (s t : Form) → Grow s t → Later s t
later_grow s t h = record { info = h.info; more = h.more }

pub def_grow : (s s' : Form) → Grow s s' → (w b o : ℕ) → def s w b ≡ some o → def s' w b ≡ some o
def_grow s s' h w b o e = or_mono (s.own w b) (s'.own w b) (s.entry w b) (s'.entry w b) o (h.own w b) (h.entry w b) e

-- e leads to a zero of type ty in b
pub record Zeroed (info : ℕ → Info) (res : ℕ → ℕ) (next ty b e : ℕ) : Type 0 where
  pub sort : (info (res e)).sort ≡ nought
  pub home : (info (res e)).home ≡ b
  pub type : (info (res e)).type ≡ ty
  pub below : res e < next

abbrev pub Nought : Form → ℕ → ℕ → ℕ → Type 0
Nought s ty b e = Zeroed s.info (resolve s) s.next ty b e

pub nought_grow : (s s' : Form) (ty b e : ℕ) → Grow s s' → resolve s' e ≡ resolve s e → Nought s ty b e → Nought s' ty b e
nought_grow s s' ty b e h r n =
    let q : s'.info (resolve s' e) ≡ s.info (resolve s e) = ap s'.info r ∙ h.info (resolve s e) n.below in
    record { sort = rw q n.sort; home = rw q n.home; type = rw q n.type; below = rw r (le_trans n.below h.more) }

-- x is a parameter of b and no alias
pub record Parameter (info : ℕ → Info) (target : ℕ → ℕ) (next b x : ℕ) : Type 0 where
  pub home : (info x).home ≡ b
  pub sort : (info x).sort ≡ param
  pub root : target x ≡ x
  pub below : x < next

abbrev pub Param : Form → ℕ → ℕ → Type 0
Param s b x = Parameter s.info s.target s.next b x

pub param_grow : (s s' : Form) (b x : ℕ) → Grow s s' → s'.target x ≡ x → Param s b x → Param s' b x
param_grow s s' b x h root r = let i = h.info x r.below in record { home = rw i r.home; sort = rw i r.sort; root = root; below = le_trans r.below h.more }

-- ---- the invariant, of the parameters kp that are kept and op that are at work

-- the caller's parameters of each block, and the caller's arguments at each destination: reading and sealing leave them alone
pub record Callers : Type 0 where
  pub params : ℕ → List ℕ
  pub args : ℕ → ℕ → List ℕ

-- with what the clauses about edges suppose
pub record Frame : Type 1 where
  pub sup : Type 0
  pub caller : Callers

abbrev pub frame : Type 0 → Callers → Frame
frame E c = record { sup = E; caller = c }

-- how many arguments of a destination are the caller's
abbrev pub cut : Frame → ℕ → ℕ → ℕ
cut E p i = length (E.caller.args p i)

-- in each block, variables with their parameters
abbrev pub Work : Type 0
Work = ℕ → List (ℕ × ℕ)

-- the parameters of b that are not settled: of a sealed block those at work, of another those that wait
abbrev pub pending : Graph → Form → Work → ℕ → List (ℕ × ℕ)
pending g s op b = cond (g.sealed b) (op b) (s.pending b)

-- the lists of parameters: the caller's, then kept, then pending
pub record Listed (sealed : ℕ → Bool) (pend : Work) (info : ℕ → Info) (target : ℕ → ℕ) (next : ℕ)
    (params cp kp : ℕ → List ℕ) : Type 0 where
  pub split : (b : ℕ) → params b ≡ cp b ++ (kp b ++ snds (pend b))
  pub pars : (b x : ℕ) → In x (kp b ++ snds (pend b)) → Parameter info target next b x
  pub nodup : (b : ℕ) → Nodup (kp b ++ snds (pend b))
  pub bare : (b : ℕ) → sealed b ≡ false → kp b ≡ []

-- a caller's parameters: counted, each of them there, each once
pub record Owned (info : ℕ → Info) (next : ℕ) (owns : ℕ → ℕ) (cp : ℕ → List ℕ) : Type 0 where
  pub count : (b : ℕ) → length (cp b) ≡ owns b
  pub few : (b : ℕ) → length (cp b) ≤ limits.own_params
  pub once : (b : ℕ) → Nodup (cp b)
  pub each : (b x : ℕ) → In x (cp b) → (x < next) × ((info x).sort ≡ caller) × ((info x).home ≡ b)
  pub all : (x : ℕ) → x < next → (info x).sort ≡ caller → In x (cp (info x).home)

-- one more value that is none
pub owned_more : {info : ℕ → Info} {next : ℕ} {owns : ℕ → ℕ} {cp : ℕ → List ℕ} → Owned info next owns cp → (new : Info)
    → (new.sort ≡ caller → ⊥) → Owned (put next new info) (suc next) owns cp
owned_more {info} {next} {owns} {cp} h new plain = record {
  count = h.count;
  few = h.few;
  once = h.once;
  each = λ b x i. let k = h.each b x i in let q = put_other next new info x (omega (arith, k.0)) in (omega (arith, k.0), rw q k.1, rw q k.2);
  all = λ x l e. elim (same? x next) [
    | inl q ↦ absurd (plain (rw (put_at next new info x q) at e))
    | inr n ↦ let q = put_other next new info x n in rw q (h.all x (omega arith) (rw q at e))
  ];
}

-- the arguments: the caller's, then as many as parameters kept, where a sealed block has the predecessor; else no others
pub record Passed (sealed : ℕ → Bool) (preds dests : ℕ → List ℕ) (args ga : ℕ → ℕ → List ℕ) (cp kp : ℕ → List ℕ) : Type 0 where
  pub fed : (p i : ℕ) → i < length (dests p) → sealed (get_or (dests p) i 0) ≡ true → In p (preds (get_or (dests p) i 0))
      → (r : List ℕ) × (args p i ≡ ga p i ++ r) × (length r ≡ length (kp (get_or (dests p) i 0)))
  pub unfed : (p i : ℕ) → (i < length (dests p) → sealed (get_or (dests p) i 0) ≡ true → In p (preds (get_or (dests p) i 0)) → ⊥)
      → args p i ≡ ga p i
  -- the caller's stand at a destination, no more than its block has parameters for
  pub there : (p i : ℕ) → length (dests p) ≤ i → ga p i ≡ []
  pub short : (p i : ℕ) → length (ga p i) ≤ length (cp (get_or (dests p) i 0))

-- each of the caller's arguments is there, with the type of the caller's parameter in its place
pub record Gave (info : ℕ → Info) (next : ℕ) (dests cp : ℕ → List ℕ) (ga : ℕ → ℕ → List ℕ) : Type 0 where
  pub below : (p i j : ℕ) → j < length (ga p i) → get_or (ga p i) j 0 < next
  pub typed : (p i j : ℕ) → j < length (ga p i) → (info (get_or (ga p i) j 0)).type ≡ (info (get_or (cp (get_or (dests p) i 0)) j 0)).type

-- one more value
pub gave_more : {info : ℕ → Info} {next : ℕ} {owns : ℕ → ℕ} {dests cp : ℕ → List ℕ} {ga : ℕ → ℕ → List ℕ} → Owned info next owns cp
    → ((p i : ℕ) → length (ga p i) ≤ length (cp (get_or (dests p) i 0))) → Gave info next dests cp ga → (new : Info)
    → Gave (put next new info) (suc next) dests cp ga
gave_more {info} {next} {owns} {dests} {cp} {ga} o short h new = record {
  below = λ p i j l. let k = h.below p i j l in omega (arith, k);
  typed = λ p i j l.
      let d = get_or (dests p) i 0 in
      let low = (o.each d (get_or (cp d) j 0) (getD_in (cp d) j (le_trans l (short p i)))).0 in
      let a = put_other next new info (get_or (ga p i) j 0) (omega (arith, h.below p i j l)) in
      let c = put_other next new info (get_or (cp d) j 0) (omega (arith, low)) in
      ap (λ (f : Info). f.type) a ∙ h.typed p i j l ∙ sym (ap (λ (f : Info). f.type) c);
}

-- aliases lead to roots, and only parameters are aliases
pub record Aliased (info : ℕ → Info) (target : ℕ → ℕ) (next : ℕ) : Type 0 where
  pub tree : Tree target next
  pub fresh : (x : ℕ) → next ≤ x → target x ≡ x
  pub roots : (x : ℕ) → ((info x).sort ≡ param → ⊥) → target x ≡ x

-- one more value
pub aliased_more : {info : ℕ → Info} {target : ℕ → ℕ} {next : ℕ} → Aliased info target next → (new : Info)
    → Aliased (put next new info) target (suc next)
aliased_more {info} {target} {next} h new = record {
  tree = tree_suc target next h.tree;
  fresh = λ x l. h.fresh x (omega arith);
  roots = λ x n. elim (same? x next) [
    | inl e ↦ h.fresh x (omega arith)
    | inr d ↦ h.roots x (λ q. n (rw (put_other next new info x d) q))
  ];
}

-- E: what the clauses about edges suppose, and what is the caller's
pub record Inv (g : Graph) (E : Frame) (s : Form) (kp : ℕ → List ℕ) (op : Work) : Type 0 where
  pub known : (w b e : ℕ) → s.entry w b ≡ some e → (w < length g.types) × (b < g.blocks)
  pub edge : E.sup → (w b e : ℕ) → s.entry w b ≡ some e → In (w, e) (pending g s op b) ⊎ Edge g (cut E) s kp w b e
  pub first : E.sup → (w b e : ℕ) → s.entry w b ≡ some e → g.preds b ≡ [] → In (w, e) (pending g s op b) ⊎ Nought s (type_of g w) b e
  pub pend : (w b x : ℕ) → In (w, x) (pending g s op b) → (s.entry w b ≡ some x) × ((s.info x).type ≡ type_of g w)
  pub listed : Listed g.sealed (pending g s op) s.info s.target s.next s.params E.caller.params kp
  pub owned : Owned s.info s.next s.owns E.caller.params
  pub passed : Passed g.sealed g.preds g.dests s.args E.caller.args E.caller.params kp
  pub gave : Gave s.info s.next g.dests E.caller.params E.caller.args
  pub aliased : Aliased s.info s.target s.next

-- an edge stays, where what it names stays
pub edge_grow : (g : Graph) (n : ℕ → ℕ → ℕ) (s s' : Form) (kp kp' : ℕ → List ℕ) → Grow s s' → (w b e : ℕ)
    → (In e (kp b) → (s'.target e ≡ e) × In e (kp' b)
    × ((p i a : ℕ) → In p (g.preds b) → i < length (g.dests p) → get_or (g.dests p) i 0 ≡ b → arg_of (kp b) (drop (n p i) (s.args p i)) e ≡ some a
    → arg_of (kp' b) (drop (n p i) (s'.args p i)) e ≡ some a))
    → Edge g n s kp w b e → Edge g n s' kp' w b e
edge_grow g n s s' kp kp' h w b e keep (same z f) = same z (λ p i. let o = f p i in (o.0, def_grow s s' h w p o.0 o.1, h.res o.0 e o.2))
edge_grow g n s s' kp kp' h w b e keep (kept z r x f) =
    let k = keep x in
    kept z (follow_root s'.target s'.next e k.0) k.1
    (λ p i. let o = f p i in (
      o.0,
      def_grow s s' h w p o.0 o.1,
      λ j lt q. let a = o.2 j lt q in (a.0, k.2 p j a.0 i lt q a.1, h.res a.0 o.0 a.2),
    ))

module _ (g : Graph) (E : Frame) (s : Form) (kp : ℕ → List ℕ) (op : Work) (h : Inv g E s kp op) where
  -- what is pending or kept in b is a parameter of b
  pub pending_par : (w b x : ℕ) → In (w, x) (pending g s op b) → In x (kp b ++ snds (pending g s op b))
  pending_par w b x i = in_right x (kp b) (snds (pending g s op b)) (in_snds w x (pending g s op b) i)

  pub kept_par : (b x : ℕ) → In x (kp b) → In x (kp b ++ snds (pending g s op b))
  kept_par b x i = in_left x (kp b) (snds (pending g s op b)) i

  -- and stands in its list
  pub built_in : (b x : ℕ) → In x (kp b ++ snds (pending g s op b)) → In x (s.params b)
  built_in b x i = rw (h.listed.split b) (in_right x (E.caller.params b) (kp b ++ snds (pending g s op b)) i)

  pub kept_root : (b x : ℕ) → In x (kp b) → s.target x ≡ x
  kept_root b x i = (h.listed.pars b x (kept_par b x i)).root

  -- 1. recording x in a sealed block whose one predecessor has it
  module _ (v x b p : ℕ) (free : (e : ℕ) → s.entry v b ≡ some e → e ≡ x) (seal : g.sealed b ≡ true) (one : g.preds b ≡ p ∷ [])
      (has_it : def s v p ≡ some x)
      (lv : v < length g.types) (lb : b < g.blocks) where
    abbrev s₁ : Form
    s₁ = mark_one v x b s

    pub mark_grow : Grow s (mark_one v x b s)
    mark_grow = record {
      own = λ w c. refl;
      entry = λ w c e q. elim (here? w v c b) [
        | inl k ↦ put₂_at v b (some x) s.entry w c k.0 k.1 ∙ ap {B = Option ℕ} some (sym (free e (rw (k.0, k.1) at q)))
        | inr n ↦ put₂_other v b (some x) s.entry w c n ∙ q
      ];
      res = λ y z q. q;
      info = λ y l. refl;
      more = omega arith;
    }

    pub mark_inv : Inv g E (mark_one v x b s) kp op
    mark_inv = record {
      known = λ w c e q. elim (put₂_is v b x s.entry w c e q) [ inl k ↦ (rw k.0 lv, rw k.1 lb) | inr o ↦ h.known w c e o ];
      edge = λ ok w c e q. elim (put₂_is v b x s.entry w c e q) [
        | inl k ↦ inr (rw (k.0, k.1, k.2) (same seal (λ r i. (
          x,
          rw (in_one r p (rw one at i)) (def_grow s s₁ mark_grow v p x has_it),
          refl,
        ))))
        | inr o ↦ ⊎_map (λ i. i) (edge_grow g (cut E) s s₁ kp kp mark_grow w c e (λ i. (kept_root c e i, i, λ _ _ _ _ _ _ a. a))) (h.edge ok w c e o)
      ];
      first = λ ok w c e q empty. elim (put₂_is v b x s.entry w c e q) [
        | inl k ↦ absurd (subst (λ (l : List ℕ). In p l) (sym (ap g.preds k.1 ∙ one) ∙ empty) (inl refl))
        | inr o ↦ h.first ok w c e o empty
      ];
      pend = λ w c y i. let k = h.pend w c y i in (mark_grow.entry w c y k.0, k.1);
      listed = h.listed;
      owned = h.owned;
      passed = h.passed;
      gave = h.gave;
      aliased = h.aliased;
    }

  -- 2. a new value that is no caller's parameter
  module _ (k : Sort) (ty b : ℕ) (plain : k ≡ caller → ⊥) where
    abbrev s₂ : Form
    s₂ = make k ty b s

    pub make_res : (z : ℕ) → resolve (make k ty b s) z ≡ resolve s z
    make_res z = follow_more s.target s.next (suc s.next) z h.aliased.tree (omega arith)

    pub make_grow : Grow s (make k ty b s)
    make_grow = record {
      own = λ w c. refl;
      entry = λ w c e q. q;
      res = λ y z q. make_res y ∙ q ∙ sym (make_res z);
      info = λ y l. put_other s.next (record { sort = k; type = ty; home = b }) s.info y (omega arith);
      more = omega arith;
    }

    pub make_inv : Inv g E (make k ty b s) kp op
    make_inv = record {
      known = h.known;
      edge = λ ok w c e q. ⊎_map (λ i. i) (edge_grow g (cut E) s s₂ kp kp make_grow w c e (λ i. (kept_root c e i, i, λ _ _ _ _ _ _ a. a))) (h.edge ok w c e q);
      first = λ ok w c e q empty. ⊎_map (λ i. i) (nought_grow s s₂ (type_of g w) c e make_grow (make_res e)) (h.first ok w c e q empty);
      pend = λ w c y i. let q = h.pend w c y i in
          (q.0, ap (λ (j : Info). j.type) (make_grow.info y (h.listed.pars c y (pending_par w c y i)).below) ∙ q.1);
      listed = record { split = h.listed.split; pars = λ c y i. let r = h.listed.pars c y i in param_grow s s₂ c y make_grow r.root r; nodup = h.listed.nodup; bare = h.listed.bare };
      owned = owned_more h.owned (record { sort = k; type = ty; home = b }) plain;
      passed = h.passed;
      gave = gave_more h.owned h.passed.short h.gave (record { sort = k; type = ty; home = b });
      aliased = aliased_more h.aliased (record { sort = k; type = ty; home = b });
    }

  -- where the parameter x of b is the first that is at work there, and then ws are
  module _ (v b x : ℕ) (ws : List (ℕ × ℕ)) (seal : g.sealed b ≡ true) (at : op b ≡ (v, x) ∷ ws) where
    abbrev op' : Work
    op' = put b ws op

    pub x_pending : In (v, x) (pending g s op b)
    x_pending = rw (seal, at) (inl refl)

    pub x_par : Param s b x
    x_par = h.listed.pars b x (pending_par v b x x_pending)

    built_parts : kp b ++ snds (pending g s op b) ≡ kp b ++ x ∷ snds ws
    built_parts = rw (seal, at)

    pub parts : s.params b ≡ (E.caller.params b ++ kp b) ++ x ∷ snds ws
    parts = h.listed.split b ∙ ap (λ (l : List ℕ). E.caller.params b ++ l) built_parts ∙ sym (append_assoc (E.caller.params b) (kp b) (x ∷ snds ws))

    -- x is not the caller's
    pub not_owned : (c : ℕ) → In x (E.caller.params c) → ⊥
    not_owned c i = caller_param (h.owned.each c x i).1 x_par.sort

    -- x out of its block's list
    pub rest_of : without x (kp b ++ snds (pending g s op b)) ≡ kp b ++ snds ws
    rest_of = ap (without x) built_parts ∙ without_mid x (kp b) (snds ws) (rw built_parts at (h.listed.nodup b))

    pub out_of : without x (s.params b) ≡ E.caller.params b ++ (kp b ++ snds ws)
    out_of = ap (without x) (h.listed.split b) ∙ without_append x (E.caller.params b) (kp b ++ snds (pending g s op b))
        ∙ rw (without_none x (E.caller.params b) (not_owned b), rest_of)

    -- x is not kept
    pub not_kept : (c : ℕ) → In x (kp c) → ⊥
    not_kept c i =
        let e : b ≡ c = sym x_par.home ∙ (h.listed.pars c x (kept_par c x i)).home in
        nodup_apart (kp b) (x ∷ snds ws) x (rw built_parts at (h.listed.nodup b)) (rw e i) (inl refl)

    -- what was pending is x, or is still pending
    pub was_pending : (w c z : ℕ) → In (w, z) (pending g s op c) → ((w ≡ v) × (c ≡ b) × (z ≡ x)) ⊎ In (w, z) (pending g s op' c)
    was_pending w c z i = elim (same? c b) [
      | inl q ↦ elim (rw (q, seal, at) at i) [
        | inl k ↦ inl (ap (λ (p : ℕ × ℕ). p.0) k, q, ap (λ (p : ℕ × ℕ). p.1) k)
        | inr j ↦ inr (rw (q, seal, put_same b ws op) j)
      ]
      | inr n ↦ inr (rw (put_other b ws op c n) i)
    ]

    pub still_pending : (w c z : ℕ) → In (w, z) (pending g s op' c) → In (w, z) (pending g s op c)
    still_pending w c z i = elim (same? c b) [
      | inl q ↦ rw (q, seal, at) (inr (rw (q, seal, put_same b ws op) at i))
      | inr n ↦ rw (put_other b ws op c n) at i
    ]

    -- 3. x becomes another name of the root y
    module _ (y : ℕ) (ry : s.target y ≡ y) (d : y ≢ x) where
      abbrev s₃ : Form
      s₃ = alias b x y s

      pub alias_grow : Grow s (alias b x y s)
      alias_grow = record {
        own = λ w c. refl;
        entry = λ w c e q. q;
        res = follow_same s.target s.next x y h.aliased.tree x_par.below x_par.root ry d;
        info = λ z l. refl;
        more = omega arith;
      }

      pub alias_keep : (z : ℕ) → resolve s z ≢ x → resolve (alias b x y s) z ≡ resolve s z
      alias_keep z n = follow_keep s.target s.next x y h.aliased.tree x_par.below x_par.root ry d z n

      pub alias_move : (z : ℕ) → resolve s z ≡ x → resolve (alias b x y s) z ≡ y
      alias_move z e = follow_move s.target s.next x y h.aliased.tree x_par.below x_par.root ry d z e

      -- a parameter but x stays a root
      others : (c z : ℕ) → Param s c z → z ≢ x → Param (alias b x y s) c z
      others c z r n = param_grow s s₃ c z alias_grow (put_other x y s.target z n ∙ r.root) r

      pub alias_inv : (E.sup → Edge g (cut E) (alias b x y s) kp v b x) → (E.sup → g.preds b ≡ [] → Nought (alias b x y s) (type_of g v) b x)
          → Inv g E (alias b x y s) kp op'
      alias_inv new new_first = record {
        known = h.known;
        edge = λ ok w c e q. elim (h.edge ok w c e q) [
          | inl i ↦ elim (was_pending w c e i) [ inl k ↦ inr (rw (k.0, k.1, k.2) (new ok)) | inr j ↦ inl j ]
          | inr k ↦ inr (edge_grow g (cut E) s s₃ kp kp alias_grow w c e
              (λ i. (put_other x y s.target e (λ r. not_kept c (rw r at i)) ∙ kept_root c e i, i, λ _ _ _ _ _ _ a. a)) k)
        ];
        first = λ ok w c e q empty. elim (h.first ok w c e q empty) [
          | inl i ↦ elim (was_pending w c e i) [ inl k ↦ inr (rw (k.0, k.1, k.2) (new_first ok (rw k.1 at empty))) | inr j ↦ inl j ]
          | inr k ↦ inr (nought_grow s s₃ (type_of g w) c e alias_grow (alias_keep e (λ i. nought_param k.sort (ap (λ (j : ℕ). (s.info j).sort) i ∙ x_par.sort))) k)
        ];
        pend = λ w c z i. h.pend w c z (still_pending w c z i);
        listed = record {
          split = λ c. elim (same? c b) [
            | inl q ↦ rw (q, seal, put_same b ws op, put_same b (without x (s.params b)) s.params) out_of
            | inr n ↦ rw (put_other b ws op c n, put_other b (without x (s.params b)) s.params c n) (h.listed.split c)
          ];
          pars = λ c z i. elim (same? c b) [
            | inl q ↦ let j = without_in x (kp b ++ snds (pending g s op b)) z (rw rest_of (rw (q, seal, put_same b ws op) at i)) in
                others c z (h.listed.pars c z (rw q j.0)) j.1
            | inr n ↦ let r = h.listed.pars c z (rw (put_other b ws op c n) at i) in
                others c z r (λ e. n (sym r.home ∙ ap (λ (k : ℕ). (s.info k).home) e ∙ x_par.home))
          ];
          nodup = λ c. elim (same? c b) [
            | inl q ↦ rw (q, seal, put_same b ws op) (subst Nodup rest_of (nodup_without x (kp b ++ snds (pending g s op b)) (h.listed.nodup b)))
            | inr n ↦ rw (put_other b ws op c n) (h.listed.nodup c)
          ];
          bare = h.listed.bare;
        };
        owned = h.owned;
        passed = h.passed;
        gave = h.gave;
        aliased = record {
          tree = tree_alias s.target s.next x y h.aliased.tree x_par.below x_par.root ry d;
          fresh = λ z l. let n : z ≢ x = omega (arith, x_par.below) in put_other x y s.target z n ∙ h.aliased.fresh z l;
          roots = λ z n. put_other x y s.target z (λ e. n (ap (λ (k : ℕ). (s.info k).sort) e ∙ x_par.sort)) ∙ h.aliased.roots z n;
        };
      }
