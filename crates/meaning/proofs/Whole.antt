-- Each call keeps the invariant of a session: by the seventeen kinds, of which most change one table. Assumes nothing.
use Prim.Native.Nat.{ℕ, zero, suc, ◌+◌, ◌<◌, ◌≤◌}
use mathlib.Core.Path.{◌≡◌, refl, sym, ap, ◌∙◌, subst}
use mathlib.Core.Logic.{◌≢◌, ◌⊎◌, inl, inr}
use mathlib.Core.Bool.{Bool, true, false, cond, not, ◌&&◌, ◌||◌}
use mathlib.Core.Option.{Option, none, some}
use mathlib.Core.List.{List, [], ◌∷◌, ◌++◌, append-nil, append_assoc, map}
use lib.Dec.{eqb, ltb, leb}
use lib.ListN.{length, get_or, length-append, get_or-append}
use native.Mathlib.Omega.{arith}
use native.Mathlib.Nat.{le_trans}
use Rattle.entity.specs.Types.{type_count}
use Rattle.entity.specs.Limits.{limits}
use Rattle.definition.specs.Base.{put, put₂, or_else, is_some, has, any, up_from}
use Rattle.definition.specs.Form.{Graph, Form, Info, def, made, caller, with_makes, with_preds, with_declared, with_blocks, graph}
use Rattle.definition.specs.Read.{type_of, write, record_binding, make, place_block, read, depth}
use Rattle.definition.specs.Session.{Call, Done, Reply, no, ok, refuse◌when◌else◌, declared_anywhere, no_block, no_var, no_value, no_branch, declare_block}
use Rattle.definition.specs.Session.{declare_var, make_value, define, use_var, new_branch, new_dest, add_pred, drop_pred, swap_out, but_last, last, seal}
use Rattle.definition.specs.Session.{seal_form, mark_sealed, seal_each, seal_all, define_answer, answered, added, own_param, give_arg, mark_var, reply}
use Rattle.meaning.specs.Path.{In, Act, makes, gives, uses, act, acts, if_so, gift, given}
use Rattle.meaning.specs.Stored.{Nodup}
use Rattle.meaning.proofs.Maps.{same?, put_same, put_other, put_at, eqb_same, eqb_diff, put₂_at, put₂_other, false_true, or_no, leb_no, ltb_no}
use Rattle.meaning.proofs.Maps.{not_no, here?, eqb_eq}
use Rattle.meaning.proofs.Facts.{cur}
use Rattle.meaning.proofs.Lists.{snds, nodup_snoc, in_left, in_cases, has_in, in_has, map_in, in_one, put_in}
use Rattle.meaning.proofs.Inv.{pending, Grow, grow_refl, grow_trans, Inv, make_inv, make_grow, Callers, Frame, frame}
use Rattle.meaning.proofs.Settle.{relog_inv}
use Rattle.meaning.proofs.Reading.{Sound, reads}
use Rattle.meaning.proofs.Sealing.{idle, shallow, sealed_one}
use Rattle.meaning.proofs.Story.{Tells, Keeps, keeps, tells_mono, cur_or, cur_append, acts_append, tells_append, made_below, made_by}
use Rattle.meaning.proofs.Graphs.{wider_inv, aimed_inv, joined_inv, write_inv}
use Rattle.meaning.proofs.Giving.{with_param, own_inv, own_grow, with_arg, give_inv}

pub record Whole (E : Type 0) (g : Graph) (s : Form) (ds : List Done) : Type 0 where
  pub caller : Callers
  pub kp : ℕ → List ℕ
  pub inv : Inv g (frame E caller) s kp idle
  pub gifts : (p i : ℕ) → caller.args p i ≡ given p i ds
  pub sound : Sound g
  pub hist : (b p : ℕ) → In p (g.preds b) → g.declared p ≡ true
  pub own : (b v : ℕ) → s.own v b ≡ cur (λ w. none) (acts b ds) v
  pub tells : (b : ℕ) → Tells s b (λ v. s.entry v b) [] (acts b ds)

pub acts_snoc : (b : ℕ) (ds : List Done) (d : Done) → acts b (ds ++ d ∷ []) ≡ acts b ds ++ act b d
acts_snoc b ds d = acts_append b ds (d ∷ []) ∙ ap (λ (l : List Act). acts b ds ++ l) (append-nil (act b d))

given_snoc : (p i : ℕ) (ds : List Done) (d : Done) → given p i (ds ++ d ∷ []) ≡ given p i ds ++ gift p i d
given_snoc p i [] d = append-nil (gift p i d)
given_snoc p i (e ∷ ds) d = ap (λ (l : List ℕ). gift p i e ++ l) (given_snoc p i ds d) ∙ sym (append_assoc (gift p i e) (given p i ds) (gift p i d))

no_gift : (p i : ℕ) (ds : List Done) (d : Done) → gift p i d ≡ [] → given p i (ds ++ d ∷ []) ≡ given p i ds
no_gift p i ds d e = given_snoc p i ds d ∙ ap (λ (l : List ℕ). given p i ds ++ l) e ∙ append-nil (given p i ds)

-- a call that is no act of any block
module _ (E : Type 0) (g : Graph) (s : Form) (ds : List Done) (h : Whole E g s ds) (d : Done) (quiet : (b : ℕ) → act b d ≡ []) where
  same_acts : (b : ℕ) → acts b (ds ++ d ∷ []) ≡ acts b ds
  same_acts b = acts_snoc b ds d ∙ ap (λ (l : List Act). acts b ds ++ l) (quiet b) ∙ append-nil (acts b ds)

  pub giving : (c' : Callers) → ((p i : ℕ) → c'.args p i ≡ given p i (ds ++ d ∷ [])) → (g' : Graph) (s' : Form) (kp' : ℕ → List ℕ)
      → Inv g' (frame E c') s' kp' idle → Sound g' → ((b p : ℕ) → In p (g'.preds b) → g'.declared p ≡ true) → Grow s s' → Whole E g' s' (ds ++ d ∷ [])
  giving c' gave g' s' kp' i G was w = record {
    caller = c';
    kp = kp';
    gifts = gave;
    inv = i;
    sound = G;
    hist = was;
    own = λ b v. w.own v b ∙ h.own b v ∙ ap (λ (l : List Act). cur (λ u. none) l v) (sym (same_acts b));
    tells = λ b. subst (λ (l : List Act). Tells s' b (λ v. s'.entry v b) [] l) (sym (same_acts b))
        (tells_mono s s' (keeps w) b (λ v. s.entry v b) (λ v. s'.entry v b) [] (λ v o e. w.entry v b o e) (acts b ds) (h.tells b));
  }

  -- and gives no argument
  pub silent : ((p i : ℕ) → gift p i d ≡ []) → (g' : Graph) (s' : Form) (kp' : ℕ → List ℕ) → Inv g' (frame E h.caller) s' kp' idle → Sound g'
      → ((b p : ℕ) → In p (g'.preds b) → g'.declared p ≡ true) → Grow s s' → Whole E g' s' (ds ++ d ∷ [])
  silent mute = giving h.caller (λ p i. h.gifts p i ∙ sym (no_gift p i ds d (mute p i)))

pub some_no : (f : ℕ → Bool) (l : List ℕ) → any f l ≡ false → (x : ℕ) → In x l → f x ≡ false
some_no f [] e x x4 = elim x4 [ ]
some_no f (y ∷ l) e x (inl k) = ap f k ∙ (or_no (f y) (any f l) e).0
some_no f (y ∷ l) e x (inr i) = some_no f l (or_no (f y) (any f l) e).1 x i

pub up_in : (n i b : ℕ) → i ≤ b → b < i + n → In b (up_from i n)
up_in zero i b lo hi = absurd (omega arith)
up_in (suc n) i b lo hi = elim (same? b i) [ inl e ↦ inl e | inr d ↦ inr (up_in n (suc i) b (omega arith) (omega arith)) ]

-- taking a predecessor out
last_in : (d : ℕ) (x : ℕ) (l : List ℕ) → In (last d (x ∷ l)) (x ∷ l)
last_in d x [] = inl refl
last_in d x (y ∷ l) = inr (last_in x y l)

butlast_in : (l : List ℕ) (q : ℕ) → In q (but_last l) → In q l
butlast_in [] q i = i
butlast_in (x ∷ []) q i = absurd i
butlast_in (x ∷ y ∷ l) q (inl e) = inl e
butlast_in (x ∷ y ∷ l) q (inr i) = inr (butlast_in (y ∷ l) q i)

butlast_apart : (d x : ℕ) (l : List ℕ) → Nodup (x ∷ l) → (q : ℕ) → In q (but_last (x ∷ l)) → q ≢ last d (x ∷ l)
butlast_apart d x [] n q x5 e = elim x5 [ ]
butlast_apart d x (y ∷ l) n q (inl k) e = n.0 (subst (λ (j : ℕ). In j (y ∷ l)) (sym e ∙ k) (last_in x y l))
butlast_apart d x (y ∷ l) n q (inr i) e = butlast_apart x y l n.1 q i e

butlast_map : (f : ℕ → ℕ) (l : List ℕ) → but_last (map f l) ≡ map f (but_last l)
butlast_map f [] = refl
butlast_map f (x ∷ []) = refl
butlast_map f (x ∷ y ∷ l) = ap {B = List ℕ} (λ r. f x ∷ r) (butlast_map f (y ∷ l))

abbrev swap_one : ℕ → ℕ → ℕ → ℕ
swap_one p z q = cond (eqb q p) z q

swap_is : (p z q : ℕ) → ((q ≡ p) × (swap_one p z q ≡ z)) ⊎ ((q ≢ p) × (swap_one p z q ≡ q))
swap_is p z q = elim (same? q p) [ inl e ↦ inl (e, rw (e, eqb_same p) refl) | inr n ↦ inr (n, rw (eqb_diff q p n) refl) ]

swap_inj : (p z x r : ℕ) → x ≢ z → r ≢ z → x ≢ r → swap_one p z x ≡ swap_one p z r → ⊥
swap_inj p z x r xz rz xr e = elim (swap_is p z x) [
  | inl a ↦ elim (swap_is p z r) [ inl b ↦ xr (a.0 ∙ sym b.0) | inr b ↦ rz (sym b.1 ∙ sym e ∙ a.1) ]
  | inr a ↦ elim (swap_is p z r) [ inl b ↦ xz (sym a.1 ∙ e ∙ b.1) | inr b ↦ xr (sym a.1 ∙ e ∙ b.1) ]
]

swap_nodup : (p z d x : ℕ) (l : List ℕ) → Nodup (x ∷ l) → last d (x ∷ l) ≡ z → Nodup (but_last (map (swap_one p z) (x ∷ l)))
swap_nodup p z d x [] n e = tt
swap_nodup p z d x (y ∷ l) n e = (fresh, swap_nodup p z x y l n.1 e)
  where
    fresh : In (swap_one p z x) (but_last (map (swap_one p z) (y ∷ l))) → ⊥
    fresh i =
        let k = map_in (swap_one p z) (but_last (y ∷ l)) (swap_one p z x) (subst (λ (u : List ℕ). In (swap_one p z x) u) (butlast_map (swap_one p z) (y ∷ l)) i) in
        swap_inj p z x k.0 (λ q. n.0 (subst (λ (j : ℕ). In j (y ∷ l)) (e ∙ sym q) (last_in x y l))) (λ q. butlast_apart x y l n.1 k.0 k.1 (q ∙ sym e))
        (λ q. n.0 (subst (λ (j : ℕ). In j (y ∷ l)) (sym q) (butlast_in (y ∷ l) k.0 k.1))) k.2

out_nodup : (p : ℕ) (l : List ℕ) → Nodup l → Nodup (swap_out p l)
out_nodup p [] n = tt
out_nodup p (x ∷ l) n = swap_nodup p (last p (x ∷ l)) p x l n refl

out_in : (p : ℕ) (l : List ℕ) (q : ℕ) → In q (swap_out p l) → In q l
out_in p [] q i = i
out_in p (x ∷ l) q i =
    let z = last p (x ∷ l) in
    let k = map_in (swap_one p z) (x ∷ l) q (butlast_in (map (swap_one p z) (x ∷ l)) q i) in
    elim (swap_is p z k.0) [ inl a ↦ subst (λ (u : ℕ). In u (x ∷ l)) (sym (k.2 ∙ a.1)) (last_in p x l) | inr a ↦ subst (λ (u : ℕ). In u (x ∷ l)) (sym (k.2 ∙ a.1)) k.1 ]

module _ (E : Type 0) (g : Graph) (s : Form) (ds : List Done) (h : Whole E g s ds) (c : Call) where
  abbrev said : ℕ → Done
  said n = record { asked = c; code = 0; number = n }

  -- what a reply has to show
  abbrev pub Fine : Reply → Type 0
  Fine (no k) = k ≢ 0
  Fine (ok n g' s') = Whole E g' s' (ds ++ said n ∷ [])

  check : (k : ℕ) (b : Bool) (r : Reply) → k ≢ 0 → (b ≡ false → Fine r) → Fine (refuse◌when◌else◌ k b r)
  check k true r n f = n
  check k false r n f = f refl

  choose : (b : Bool) (r q : Reply) → (b ≡ true → Fine r) → (b ≡ false → Fine q) → Fine (cond b r q)
  choose true r q f u = f refl
  choose false r q f u = u refl

  -- neither an act nor an argument
  abbrev Quiet : Type 0
  Quiet = (n : ℕ) → ((b : ℕ) → act b (said n) ≡ []) × ((p i : ℕ) → gift p i (said n) ≡ [])

  abbrev F : Frame
  F = frame E h.caller

  -- nothing changes
  nothing : Quiet → (n : ℕ) → Fine (ok n g s)
  nothing q n = silent E g s ds h (said n) (q n).0 (q n).1 g s h.kp h.inv h.sound h.hist (grow_refl s)

  -- only the graph's counts and marks change, and perhaps the logs
  wider_fine : Quiet → (n bl : ℕ) (ty : List ℕ) (br mk : ℕ → Bool) (s' : Form) → Inv g F s' h.kp idle → Grow s s' → g.blocks ≤ bl
      → ((w : ℕ) → w < length g.types → (w < length ty) × (get_or ty w 0 ≡ get_or g.types w 0))
      → Fine (ok n (graph g.call bl ty br g.dests g.preds g.sealed g.declared mk) s')
  wider_fine q n bl ty br mk s' i w more typed = silent E g s ds h (said n) (q n).0 (q n).1 _ s' h.kp
      (wider_inv g F s' h.kp idle i g.call bl ty br mk more typed)
      (record { range = λ b p k. le_trans (h.sound.range b p k) more; nodup = h.sound.nodup; inside = λ b p k. le_trans (h.sound.inside b p k) more; names = h.sound.names })
      h.hist w

  untyped : (w : ℕ) → w < length g.types → (w < length g.types) × (get_or g.types w 0 ≡ get_or g.types w 0)
  untyped w l = (l, refl)

  placed_inv : (b : ℕ) → Inv g F (place_block b s) h.kp idle
  placed_inv b = relog_inv g F s.zeros (place_block b s).placed s.makes s h.kp idle h.inv

  fine_block : Quiet → (x : ℕ) → Fine (declare_block g s x)
  fine_block q x = check 4 (leb limits.blocks x) _ (omega arith) λ _. check 5 (ltb g.blocks x) _ (omega arith) λ _. choose (ltb x g.blocks) _ _ (λ _. nothing q x)
      λ e. by (eqb x 0) (ltb_no x g.blocks e)
    where
      by : (z : Bool) → g.blocks ≤ x → Fine (ok x (with_blocks g (suc x)) (cond z (place_block 0 s) s))
      by true lo = wider_fine q x (suc x) g.types g.branch g.marks (place_block 0 s) (placed_inv 0) (grow_refl s) (omega arith) untyped
      by false lo = wider_fine q x (suc x) g.types g.branch g.marks s h.inv (grow_refl s) (omega arith) untyped

  fine_var : Quiet → (x y : ℕ) → Fine (declare_var g s x y)
  fine_var q x y =
      check 4 (leb limits.variables x) _ (omega arith) λ _. check 5 (ltb (length g.types) x) _ (omega arith) λ _. check 6 (leb type_count y) _ (omega arith) λ _.
      check 7 (ltb x (length g.types) && not (eqb y (type_of g x))) _ (omega arith) λ _. choose (ltb x (length g.types)) _ _ (λ _. nothing q x) λ _.
      wider_fine q x g.blocks (g.types ++ y ∷ []) g.branch g.marks s h.inv (grow_refl s) (omega arith)
      (λ w l. (omega (arith, l, length-append g.types (y ∷ [])), get_or-append g.types (y ∷ []) 0 w l))

  fine_branch : Quiet → (b : ℕ) → Fine (new_branch g s b)
  fine_branch q b = check 6 (no_block g s b) _ (omega arith) λ _. check 9 (g.branch b) _ (omega arith) λ _.
      wider_fine q b g.blocks g.types (put b true g.branch) g.marks (place_block b s) (placed_inv b) (grow_refl s) (omega arith) untyped

  -- branch p is declared nowhere
  nowhere : (p : ℕ) → declared_anywhere g p ≡ false → (b : ℕ) → In p (g.preds b) → ⊥
  nowhere p e c i = false_true (some_no (λ d. has p (g.preds d)) (up_from 0 g.blocks) e c
      (up_in g.blocks 0 c (omega arith) (omega (arith, h.sound.inside c p i)))) (has_in p (g.preds c) i)

  fine_dest : Quiet → (p b : ℕ) → Fine (new_dest g s p b)
  fine_dest q p b =
      check 6 (no_branch g s p || no_block g s b) _ (omega arith) λ _. check 11 (declared_anywhere g p) _ (omega arith) λ e. check 10 (leb limits.dests (length (g.dests p))) _ (omega arith) λ _.
      silent E g s ds h (said (length (g.dests p))) (q (length (g.dests p))).0 (q (length (g.dests p))).1 _ s h.kp
      (aimed_inv g F s h.kp idle h.inv p b (nowhere p e))
      (record { range = h.sound.range; nodup = h.sound.nodup; inside = h.sound.inside; names = names }) h.hist (grow_refl s)
    where
      names : (c r : ℕ) → In r (g.preds c) → In c (put p (g.dests p ++ b ∷ []) g.dests r)
      names c r i = elim (same? r p) [
        | inl k ↦ rw (put_at p (g.dests p ++ b ∷ []) g.dests r k) (in_left c (g.dests p) (b ∷ []) (rw k at (h.sound.names c r i)))
        | inr k ↦ rw (put_other p (g.dests p ++ b ∷ []) g.dests r k) (h.sound.names c r i)
      ]

  -- other predecessors of an unsealed block
  joined_fine : Quiet → (n b : ℕ) (ps : List ℕ) (dc : ℕ → Bool) → g.sealed b ≡ false → b < g.blocks → Nodup ps
      → ((p : ℕ) → In p ps → (p < g.blocks) × In b (g.dests p))
      → ((p : ℕ) → In p ps → dc p ≡ true) → ((p : ℕ) → g.declared p ≡ true → dc p ≡ true)
      → Fine (ok n (with_declared (with_preds g (put b ps g.preds)) dc) s)
  joined_fine q n b ps dc z lb nd good marked still = silent E g s ds h (said n) (q n).0 (q n).1 _ s h.kp
      (joined_inv g F s h.kp idle h.inv b ps dc z)
      (record {
        range = λ c p i. elim (put_in p b ps g.preds c i) [ inl k ↦ (good p k.1).0 | inr j ↦ h.sound.range c p j ];
        nodup = λ c. elim (same? c b) [ inl k ↦ rw (put_at b ps g.preds c k) nd | inr k ↦ rw (put_other b ps g.preds c k) (h.sound.nodup c) ];
        inside = λ c p i. elim (put_in p b ps g.preds c i) [ inl k ↦ rw k.0 lb | inr j ↦ h.sound.inside c p j ];
        names = λ c p i. elim (put_in p b ps g.preds c i) [ inl k ↦ rw k.0 (good p k.1).1 | inr j ↦ h.sound.names c p j ];
      })
      (λ c p i. elim (put_in p b ps g.preds c i) [ inl k ↦ marked p k.1 | inr j ↦ still p (h.hist c p j) ]) (grow_refl s)

  fine_pred : Quiet → (b p : ℕ) → Fine (add_pred g s b p)
  fine_pred q b p =
      check 6 (no_block g s b || no_branch g s p) _ (omega arith) λ e₆. check 8 (g.sealed b) _ (omega arith) λ e₈. check 13 (not (has b (g.dests p))) _ (omega arith) λ e₁₃.
      check 12 (has p (g.preds b)) _ (omega arith) λ e₁₂.
      let o = or_no (no_block g s b) (no_branch g s p) e₆ in
      let lp = leb_no g.blocks p (or_no (no_block g s p) (not (g.branch p)) o.1).0 in
      let d = in_has b (g.dests p) (not_no (has b (g.dests p)) e₁₃) in
      joined_fine q (suc (length (g.preds b))) b (g.preds b ++ p ∷ []) (put p true g.declared) e₈ (leb_no g.blocks b o.0)
      (nodup_snoc (g.preds b) p (h.sound.nodup b) (λ i. false_true e₁₂ (has_in p (g.preds b) i)))
      (λ r i. elim (in_cases r (g.preds b) (p ∷ []) i) [ inl j ↦ (h.sound.range b r j, h.sound.names b r j) | inr j ↦ rw (in_one r p j) (lp, d) ])
      (λ r i. elim (in_cases r (g.preds b) (p ∷ []) i) [ inl j ↦ ever r (h.hist b r j) | inr j ↦ put_at p true g.declared r (in_one r p j) ]) ever
    where
      ever : (r : ℕ) → g.declared r ≡ true → put p true g.declared r ≡ true
      ever r e = elim (same? r p) [ inl k ↦ put_at p true g.declared r k | inr n ↦ put_other p true g.declared r n ∙ e ]

  fine_seal : Quiet → (b : ℕ) → Fine (seal g s b)
  fine_seal q b = check 6 (no_block g s b) _ (omega arith) λ _. check 8 (g.sealed b) _ (omega arith) λ e.
      let r = sealed_one g F s h.kp h.inv b e h.sound in
      let n = added g s (seal_form g s b) in
      silent E g s ds h (said n) (q n).0 (q n).1 (mark_sealed g b) (seal_form g s b) r.kp r.inv h.sound h.hist r.grow

  -- a call that is the act a of block x, and of no other
  module _ (n x : ℕ) (a : Act) (is : (b : ℕ) → act b (said n) ≡ if_so (eqb x b) a) (mute : (p i : ℕ) → gift p i (said n) ≡ []) (s' : Form)
      (kp' : ℕ → List ℕ) (i : Inv g F s' kp' idle)
      (k : Keeps s s') (entries : (b v e : ℕ) → s.entry v b ≡ some e → s'.entry v b ≡ some e) where
    acts_now : (b : ℕ) → acts b (ds ++ said n ∷ []) ≡ acts b ds ++ if_so (eqb x b) a
    acts_now b = acts_snoc b ds (said n) ∙ ap (λ (l : List Act). acts b ds ++ l) (is b)

    acts_here : acts x (ds ++ said n ∷ []) ≡ acts x ds ++ a ∷ []
    acts_here = acts_now x ∙ rw (eqb_same x) refl

    acts_else : (b : ℕ) → b ≢ x → acts b (ds ++ said n ∷ []) ≡ acts b ds
    acts_else b d = acts_now b ∙ rw (eqb_diff x b (λ e. d (sym e))) (append-nil (acts b ds))

    still : (b : ℕ) → Tells s' b (λ v. s'.entry v b) [] (acts b ds)
    still b = tells_mono s s' k b (λ v. s.entry v b) (λ v. s'.entry v b) [] (entries b) (acts b ds) (h.tells b)

    spoken : ((v : ℕ) → s'.own v x ≡ cur (cur (λ w. none) (acts x ds)) (a ∷ []) v) → ((b v : ℕ) → b ≢ x → s'.own v b ≡ s.own v b)
        → Tells s' x (cur (λ v. s'.entry v x) (acts x ds)) (made_by [] (acts x ds)) (a ∷ []) → Fine (ok n g s')
    spoken here other tell = record {
      caller = h.caller;
      gifts = λ p j. h.gifts p j ∙ sym (no_gift p j ds (said n) (mute p j));
      kp = kp';
      inv = i;
      sound = h.sound;
      hist = h.hist;
      own = λ b v. elim (same? b x) [
        | inl e ↦ rw (e, acts_here, cur_append (λ w. none) (acts x ds) (a ∷ [])) (here v)
        | inr d ↦ rw (acts_else b d) (other b v d ∙ h.own b v)
      ];
      tells = λ b. elim (same? b x) [
        | inl e ↦ rw (e, acts_here) (tells_append s' x (λ v. s'.entry v x) [] (acts x ds) (a ∷ []) (still x) tell)
        | inr d ↦ rw (acts_else b d) (still b)
      ];
    }

  made_caller : made ≡ caller → ⊥
  made_caller e = let z : ◌≡◌ {A = ℕ} 0 1 = cc in omega arith

  fine_make : (x y : ℕ) → ((n b : ℕ) → act b (said n) ≡ if_so (eqb x b) (makes n)) → ((n p i : ℕ) → gift p i (said n) ≡ []) → Fine (make_value g s x y)
  fine_make x y is mute =
      check 6 (no_block g s x || leb type_count y) _ (omega arith) λ _. check 9 (g.branch x) _ (omega arith) λ _. check 4 (leb limits.made s.makes) _ (omega arith) λ _.
      spoken n x (makes n) (is n) (mute n) (make made y x s₁) h.kp (make_inv g F s₁ h.kp idle inv₁ made y x made_caller)
      (keeps (make_grow g F s₁ h.kp idle inv₁ made y x made_caller)) (λ b v e q. q) (h.own x) (λ b v d. refl) (
        λ i. omega (arith, made_below s x (λ v. s.entry v x) [] (acts x ds) (h.tells x) (λ y j. absurd j) n i),
        omega arith,
        ap (λ (i : Info). i.home) new,
        ap (λ (i : Info). i.sort) new,
        tt,
      )
    where
      n : ℕ
      n = s.next

      s₁ : Form
      s₁ = place_block x (with_makes s (suc s.makes))

      inv₁ : Inv g F s₁ h.kp idle
      inv₁ = relog_inv g F s.zeros s₁.placed s₁.makes s h.kp idle h.inv

      new : (make made y x s₁).info s.next ≡ record { sort = made; type = y; home = x }
      new = put_same s.next (record { sort = made; type = y; home = x }) s.info

  fine_define : (v x b : ℕ) → ((n c : ℕ) → act c (said n) ≡ if_so (eqb b c) (gives v n)) → ((n p i : ℕ) → gift p i (said n) ≡ []) → Fine (define g s v x b)
  fine_define v x b is mute =
      check 6 (no_var g s v || no_value g s x || no_block g s b) _ (omega arith) λ _. check 7 (not (eqb (s.info x).type (type_of g v))) _ (omega arith) λ _.
      check 20 (g.declared b) _ (omega arith) λ e₂₀.
      spoken x b (gives v x) (is x) (mute x) (record_binding g v x (write v b x s)) h.kp
      (write_inv g F s h.kp idle h.inv v b x (λ c i. false_true e₂₀ (h.hist c b i)))
      (record { res = λ y z q. q; info = λ y l. refl; more = omega arith }) (λ c w e q. q)
      (λ w. elim (same? w v) [
        | inl q ↦ put₂_at v b (some x) s.own w b q refl ∙ sym (put_at v (some x) (cur (λ u. none) (acts b ds)) w q)
        | inr n ↦ put₂_other v b (some x) s.own w b (λ q _. n q) ∙ h.own b w ∙ sym (put_other v (some x) (cur (λ u. none) (acts b ds)) w n)
      ])
      (λ c w d. put₂_other v b (some x) s.own w c (λ _ q. d q)) tt

  fine_use : (v b : ℕ) → ((n c : ℕ) → act c (said n) ≡ if_so (eqb b c) (uses v n)) → ((n p i : ℕ) → gift p i (said n) ≡ []) → Fine (use_var g s v b)
  fine_use v b is mute = check 6 (no_var g s v || no_block g s b) _ (omega arith) λ e.
      let o = or_no (no_var g s v) (no_block g s b) e in
      let lv = leb_no (length g.types) v o.0 in
      let q = read (depth g) g v b s in
      let r = reads g h.sound v lv F (depth g) b s h.kp idle (leb_no g.blocks b o.1) h.inv (λ c z. inl refl) (shallow v s g) in
      spoken q.0 b (uses v q.0) (is q.0) (mute q.0) q.1 r.kp r.inv (keeps r.grow) (λ c w u i. r.grow.entry w c u i)
      (λ w. r.grow.own w b ∙ h.own b w) (λ c w d. r.grow.own w c) (
        (
          r.o,
          cur_or (λ w. q.1.entry w b) (acts b ds) (λ w. none) v ∙ ap (λ (z : Option ℕ). or_else z (q.1.entry v b)) (sym (r.grow.own v b ∙ h.own b v)) ∙ r.recorded,
          r.alike,
        ),
        tt,
      )

  -- sealing several
  record Each (g₀ : Graph) (s₀ : Form) (r : Graph × Form) : Type 0 where
    kp : ℕ → List ℕ
    inv : Inv r.0 F r.1 kp idle
    sound : Sound r.0
    grow : Grow s₀ r.1
    hist : ((b p : ℕ) → In p (g₀.preds b) → g₀.declared p ≡ true) → (b p : ℕ) → In p (r.0.preds b) → r.0.declared p ≡ true

  each : (bs : List ℕ) (g₀ : Graph) (s₀ : Form) (kp : ℕ → List ℕ) → Inv g₀ F s₀ kp idle → Sound g₀
      → Each g₀ s₀ (seal_each bs g₀ s₀)
  each [] g₀ s₀ kp i G = record { kp = kp; inv = i; sound = G; grow = grow_refl s₀; hist = λ e. e }
  each (b ∷ bs) g₀ s₀ kp i G = by (g₀.sealed b) refl (each bs g₀ s₀ kp i G) (λ e. let r = sealed_one g₀ F s₀ kp i b e G in
      each bs (mark_sealed g₀ b) (seal_form g₀ s₀ b) r.kp r.inv G)
    where
      by : (z : Bool) → g₀.sealed b ≡ z → Each g₀ s₀ (seal_each bs g₀ s₀)
          → (g₀.sealed b ≡ false → Each (mark_sealed g₀ b) (seal_form g₀ s₀ b) (seal_each bs (mark_sealed g₀ b) (seal_form g₀ s₀ b)))
          → Each g₀ s₀ (elim z as (λ _. Graph × Form)
          [ true ↦ seal_each bs g₀ s₀ | false ↦ seal_each bs (mark_sealed g₀ b) (seal_form g₀ s₀ b) ])
      by true e on off = on
      by false e on off =
          let r = sealed_one g₀ F s₀ kp i b e G in
          let k = off e in
          record {
            kp = k.kp;
            inv = k.inv;
            sound = k.sound;
            grow = grow_trans s₀ (seal_form g₀ s₀ b)
                (seal_each bs (mark_sealed g₀ b) (seal_form g₀ s₀ b)).1 r.grow k.grow;
            hist = k.hist;
          }

  fine_all : Quiet → Fine (seal_all g s)
  fine_all q = let r = each (up_from 0 g.blocks) g s h.kp h.inv h.sound in
      let n = added g s (seal_each (up_from 0 g.blocks) g s).1 in
      silent E g s ds h (said n) (q n).0 (q n).1 (seal_each (up_from 0 g.blocks) g s).0 (seal_each (up_from 0 g.blocks) g s).1 r.kp r.inv
      r.sound (r.hist h.hist) r.grow

  fine_drop : Quiet → (b p : ℕ) → Fine (drop_pred g s b p)
  fine_drop q b p = check 6 (no_block g s b || no_branch g s p) _ (omega arith) λ e₆. check 8 (g.sealed b) _ (omega arith) λ e₈. check 13 (not (has p (g.preds b))) _ (omega arith) λ _.
      joined_fine q _ b (swap_out p (g.preds b)) g.declared e₈ (leb_no g.blocks b (or_no (no_block g s b) (no_branch g s p) e₆).0)
      (out_nodup p (g.preds b) (h.sound.nodup b))
      (λ r i. let j = out_in p (g.preds b) r i in (h.sound.range b r j, h.sound.names b r j)) (λ r i. h.hist b r (out_in p (g.preds b) r i)) (λ r e. e)

  fine_define_at : (v b : ℕ) (o : Option ℕ) → ((n e : ℕ) → act e (said n) ≡ if_so (eqb b e) (gives v n))
      → ((n p i : ℕ) → gift p i (said n) ≡ []) → Fine (define_answer g s v b o)
  fine_define_at v b none is mute = omega arith
  fine_define_at v b (some x) is mute = fine_define v x b is mute

  fine_ask : Quiet → (b : ℕ) (n : ℕ) → Fine (refuse◌when◌else◌ 6 (no_block g s b) (ok n g s))
  fine_ask q b n = check 6 (no_block g s b) _ (omega arith) λ _. nothing q n

  -- a caller's parameter
  fine_own : Quiet → (b ty : ℕ) → Fine (own_param g s b ty)
  fine_own q b ty =
      check 6 (no_block g s b || leb type_count ty) _ (omega arith) λ _.
      check 17 (g.sealed b || not (eqb (length (g.preds b)) 0) || not (eqb (length (s.pending b)) 0)) _ (omega arith) λ e₁₇.
      check 18 (leb limits.own_params (s.owns b)) _ (omega arith) λ e₁₈. check 4 (leb limits.made s.makes) _ (omega arith) λ _.
      let o = or_no (g.sealed b || not (eqb (length (g.preds b)) 0)) (not (eqb (length (s.pending b)) 0)) e₁₇ in
      let un = (or_no (g.sealed b) (not (eqb (length (g.preds b)) 0)) o.0).0 in
      let idle_b = empty_of (s.pending b) (eqb_eq (length (s.pending b)) 0 (not_no (eqb (length (s.pending b)) 0) o.1)) in
      let room = leb_no limits.own_params (s.owns b) e₁₈ in
      giving E g s ds h (said s.next) (q s.next).0 (with_param g F s h.kp idle h.inv b ty (suc s.makes) un idle_b room)
      (λ p i. h.gifts p i ∙ sym (no_gift p i ds (said s.next) ((q s.next).1 p i))) g _ h.kp
      (own_inv g F s h.kp idle h.inv b ty (suc s.makes) un idle_b room) h.sound h.hist
      (own_grow g F s h.kp idle h.inv b ty (suc s.makes) un idle_b room)
    where
      empty_of : {A : Type 0} (l : List A) → length l ≡ 0 → l ≡ []
      empty_of [] e = refl
      empty_of (a ∷ l) e = absurd (omega arith)

  -- a caller's argument
  fine_give : ((n b : ℕ) → act b (said n) ≡ []) → (p x i : ℕ)
      → ((n q j : ℕ) → gift q j (said n) ≡ if_so (eqb p q && eqb i j) x) → Fine (give_arg g s p x i)
  fine_give q p x i is =
      check 6 (no_branch g s p || no_value g s x || leb (length (g.dests p)) i) _ (omega arith) λ e₆. check 11 (declared_anywhere g p) _ (omega arith) λ e₁₁.
      check 18 (leb (s.owns d) (length (s.args p i))) _ (omega arith) λ e₁₈.
      check 7 (not (eqb (s.info x).type (s.info (get_or (s.params d) (length (s.args p i)) 0)).type)) _ (omega arith) λ e₇.
      let o = or_no (no_branch g s p || no_value g s x) (leb (length (g.dests p)) i) e₆ in
      let lt = leb_no (length (g.dests p)) i o.1 in
      let lx = leb_no s.next x (or_no (no_branch g s p) (no_value g s x) o.0).1 in
      let room = rw (sym (h.inv.owned.count d)) at (leb_no (s.owns d) (length (s.args p i)) e₁₈) in
      giving E g s ds h (said n) (q n) (with_arg g F s h.kp idle h.inv p x i lt (nowhere p e₁₁) room lx (type room e₇)) gave g _ h.kp
      (give_inv g F s h.kp idle h.inv p x i lt (nowhere p e₁₁) room lx (type room e₇)) h.sound h.hist (grow_refl s)
    where
      d : ℕ
      d = get_or (g.dests p) i 0

      n : ℕ
      n = length (s.args p i)

      ga : ℕ → ℕ → List ℕ
      ga = h.caller.args

      -- the parameter in that place is the caller's
      type : length (s.args p i) < length (h.caller.params (get_or (g.dests p) i 0))
          → not (eqb (s.info x).type (s.info (get_or (s.params (get_or (g.dests p) i 0)) (length (s.args p i)) 0)).type) ≡ false
          → (s.info x).type ≡ (s.info (get_or (h.caller.params (get_or (g.dests p) i 0)) (length (s.args p i)) 0)).type
      type room e =
          let cp = h.caller.params d in
          let r = h.kp d ++ snds (pending g s idle d) in
          eqb_eq (s.info x).type (s.info (get_or (s.params d) n 0)).type (not_no (eqb (s.info x).type (s.info (get_or (s.params d) n 0)).type) e)
          ∙ ap (λ (y : ℕ). (s.info y).type) (ap (λ (l : List ℕ). get_or l n 0) (h.inv.listed.split d) ∙ get_or-append cp r 0 n room)

      gave : (r j : ℕ) → put₂ p i (h.caller.args p i ++ x ∷ []) h.caller.args r j ≡ given r j (ds ++ said (length (s.args p i)) ∷ [])
      gave r j = elim (here? r p j i) [
        | inl e ↦ put₂_at p i (ga p i ++ x ∷ []) ga r j e.0 e.1 ∙ ap (λ (l : List ℕ). l ++ x ∷ []) (h.gifts p i)
            ∙ sym (given_snoc r j ds (said n) ∙ rw (is n r j, e.0, e.1, eqb_same p, eqb_same i) refl)
        | inr o ↦ put₂_other p i (ga p i ++ x ∷ []) ga r j o ∙ h.gifts r j
            ∙ sym (no_gift r j ds (said n) (is n r j ∙ ap (λ (z : Bool). if_so z x) (differ r j o)))
      ]
        where
          differ : (r j : ℕ) → (r ≡ p → j ≡ i → ⊥) → eqb p r && eqb i j ≡ false
          differ r j o = elim (same? r p) [
            | inl e ↦ rw (e, eqb_same p) (eqb_diff i j (λ k. o e (sym k)))
            | inr u ↦ rw (eqb_diff p r (λ k. u (sym k))) refl
          ]

  -- a variable's mark
  fine_mark : Quiet → (v : ℕ) → Fine (mark_var g s v)
  fine_mark q v =
      check 6 (no_var g s v) _ (omega arith) λ _. check 19 (any (λ b. is_some (def s v b)) (up_from 0 g.blocks)) _ (omega arith) λ _.
      wider_fine q v g.blocks g.types g.branch (put v true g.marks) s h.inv (grow_refl s) (omega arith) untyped

  -- the reply to the call of kind k
  pub fine : (k : ℕ) → c.kind ≡ k → Fine (reply g s ds c.x c.y c.z k)
  fine zero e = omega arith
  fine (suc zero) e = fine_block (λ n. (λ b. rw e refl, λ p i. rw e refl)) c.x
  fine (suc (suc zero)) e = fine_var (λ n. (λ b. rw e refl, λ p i. rw e refl)) c.x c.y
  fine (suc (suc (suc zero))) e = fine_make c.x c.y
      (λ n b. rw e (append-nil (if_so (eqb c.x b) (makes n) ++ []) ∙ append-nil (if_so (eqb c.x b) (makes n)))) (λ n p i. rw e refl)
  fine (suc (suc (suc (suc zero)))) e = fine_define c.x c.y c.z (λ n b. rw e (append-nil (if_so (eqb c.z b) (gives c.x n)))) (λ n p i. rw e refl)
  fine (suc (suc (suc (suc (suc zero))))) e = fine_define_at c.x c.z (answered ds c.y)
      (λ n b. rw e (append-nil (if_so (eqb c.z b) (gives c.x n)))) (λ n p i. rw e refl)
  fine (suc (suc (suc (suc (suc (suc zero)))))) e = fine_use c.x c.y (λ n b. rw e refl) (λ n p i. rw e refl)
  fine (suc (suc (suc (suc (suc (suc (suc zero))))))) e = fine_branch (λ n. (λ b. rw e refl, λ p i. rw e refl)) c.x
  fine (suc (suc (suc (suc (suc (suc (suc (suc zero)))))))) e = fine_dest (λ n. (λ b. rw e refl, λ p i. rw e refl)) c.x c.y
  fine (suc (suc (suc (suc (suc (suc (suc (suc (suc zero))))))))) e = fine_pred (λ n. (λ b. rw e refl, λ p i. rw e refl)) c.x c.y
  fine (suc (suc (suc (suc (suc (suc (suc (suc (suc (suc zero)))))))))) e = fine_drop (λ n. (λ b. rw e refl, λ p i. rw e refl)) c.x c.y
  fine (suc (suc (suc (suc (suc (suc (suc (suc (suc (suc (suc zero))))))))))) e = fine_seal (λ n. (λ b. rw e refl, λ p i. rw e refl)) c.x
  fine (suc (suc (suc (suc (suc (suc (suc (suc (suc (suc (suc (suc zero)))))))))))) e = fine_all (λ n. (λ b. rw e refl, λ p i. rw e refl))
  fine (suc (suc (suc (suc (suc (suc (suc (suc (suc (suc (suc (suc (suc zero))))))))))))) e = fine_ask (λ n. (λ b. rw e refl, λ p i. rw e refl)) c.x _
  fine (suc (suc (suc (suc (suc (suc (suc (suc (suc (suc (suc (suc (suc (suc zero)))))))))))))) e = fine_ask (λ n. (λ b. rw e refl, λ p i. rw e refl)) c.x _
  fine (suc (suc (suc (suc (suc (suc (suc (suc (suc (suc (suc (suc (suc (suc (suc zero))))))))))))))) e = fine_own (λ n. (λ b. rw e refl, λ p i. rw e refl))
      c.x c.y
  fine (suc (suc (suc (suc (suc (suc (suc (suc (suc (suc (suc (suc (suc (suc (suc (suc zero)))))))))))))))) e =
      fine_give (λ n b. rw e refl) c.x c.y c.z (λ n p i. rw e refl)
  fine (suc (suc (suc (suc (suc (suc (suc (suc (suc (suc (suc (suc (suc (suc (suc (suc (suc zero))))))))))))))))) e =
      fine_mark (λ n. (λ b. rw e refl, λ p i. rw e refl)) c.x
  fine (suc (suc (suc (suc (suc (suc (suc (suc (suc (suc (suc (suc (suc (suc (suc (suc (suc (suc k)))))))))))))))))) e = omega arith
