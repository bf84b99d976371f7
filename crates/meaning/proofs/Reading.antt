-- Reading a variable keeps the invariant, and answers what the block then records: by induction on the blocks that lack the variable. Assumes nothing.
use Prim.Native.Nat.{ℕ, zero, suc, ◌<◌}
use mathlib.Core.Path.{◌≡◌, refl, sym, ap, ◌∙◌, subst}
use mathlib.Core.Logic.{⊎_map, ◌≢◌, ◌⊎◌, inl, inr}
use mathlib.Core.Bool.{Bool, true, false, cond}
use mathlib.Core.Option.{Option, none, some}
use mathlib.Core.List.{List, [], ◌∷◌, ◌++◌}
use lib.ListN.{length}
use native.Mathlib.Omega.{arith}
use native.Mathlib.Nat.{le_trans, not-suc-le-zero}
use Rattle.definition.specs.Base.{put, put₂, or_else, has, before}
use Rattle.definition.specs.Form.{Graph, Form, def}
use Rattle.definition.specs.Read.{Got, resolve, mark_one, mark, settle, only, single, Walk, stop, on_to, past, walk, read_all, fill, new_param, begin}
use Rattle.definition.specs.Read.{read_past, read_on, read, wait}
use Rattle.meaning.specs.Path.{In}
use Rattle.meaning.specs.Stored.{Nodup}
use Rattle.meaning.proofs.Maps.{same?, put_same, put_other, eqb_same, eqb_diff, some_inj, put₂_at, put₂_other, some_none, or_none, put_put, put_id}
use Rattle.meaning.proofs.Inv.{Grow, grow_refl, grow_trans, def_grow, pending, Inv, mark_inv, mark_grow, Work, Frame}
use Rattle.meaning.proofs.Keeping.{Results, results_length}
use Rattle.meaning.proofs.Growing.{grown, grown_grow, grown_inv}
use Rattle.meaning.proofs.Settle.{Settled, settled}
use Rattle.meaning.proofs.Lacking.{Somes, lacks, fewer, less}

-- what grows keeps its definitions
pub grow_somes : (s s' : Form) → Grow s s' → Somes s s'
grow_somes s s' h w b o = (o.0, def_grow s s' h w b o.0 o.1)

-- what is supposed of the graph: its count of blocks, destinations, predecessors
pub record Joined (n : ℕ) (ds ps : ℕ → List ℕ) : Type 0 where
  pub range : (b p : ℕ) → In p (ps b) → p < n
  pub nodup : (b : ℕ) → Nodup (ps b)
  pub inside : (b p : ℕ) → In p (ps b) → b < n
  pub names : (b p : ℕ) → In p (ps b) → In b (ds p)

abbrev pub Sound : Graph → Type 0
Sound g = Joined g.blocks g.dests g.preds

pub only_is : (c : Bool) (ps : List ℕ) (p : ℕ) → only c ps ≡ some p → (c ≡ true) × (ps ≡ p ∷ [])
only_is true [] p e = absurd (some_none e refl)
only_is true (q ∷ []) p e = (refl, ap {B = List ℕ} (λ i. i ∷ []) (some_inj e))
only_is true (q ∷ r ∷ ps) p e = absurd (some_none e refl)
only_is false ps p e = absurd (some_none e refl)

module _ (g : Graph) (v : ℕ) where
  -- a block with parameters at work has an entry of v
  abbrev pub Busy : Form → Work → Type 0
  Busy s op = (c : ℕ) → g.sealed c ≡ true → (op c ≡ []) ⊎ ((e : ℕ) × (s.entry v c ≡ some e))

  pub busy_grow : (s s' : Form) (op : Work) → Grow s s' → Busy s op → Busy s' op
  busy_grow s s' op h k c e = ⊎_map (λ q. q) (λ q. (q.0, h.entry v c q.0 q.1)) (k c e)

  -- a walk from b over blocks that lack v, to e
  abbrev pub Trail : Form → ℕ → List ℕ → ℕ → Type 0
  Trail s b [] e = b ≡ e
  Trail s b (c ∷ cs) e = (b ≡ c) × (def s v c ≡ none) × ((p : ℕ) × (single g c ≡ some p) × Trail s p cs e)

  pub record Walked (s : Form) (b : ℕ) (w : Walk) : Type 0 where
    pub trail : Trail s b w.passed w.end
    pub low : w.end < g.blocks
    pub met : (x : ℕ) → w.met ≡ some x → def s v w.end ≡ some x
    pub unmet : w.met ≡ none → def s v w.end ≡ none

  pub trail_before : (s : Form) (b e : ℕ) (l : List ℕ) → Trail s b l e → Trail s b (before e l) e
  trail_before s b e [] h = h
  trail_before s b e (c ∷ l) h = elim (same? c e) [
    | inl q ↦ rw (q, eqb_same e) (h.0 ∙ q)
    | inr n ↦ rw (eqb_diff c e n) (h.0, h.1, (h.2.0, h.2.1, trail_before s h.2.0 e l h.2.2))
  ]

  module _ (E : Frame) where
    pub record Read (s : Form) (op : Work) (b : ℕ) (r : Got) : Type 0 where
      pub kp : ℕ → List ℕ
      pub inv : Inv g E r.1 kp op
      pub grow : Grow s r.1
      pub o : ℕ
      pub recorded : def r.1 v b ≡ some o
      pub alike : resolve r.1 r.0 ≡ resolve r.1 o

    -- rec reads v rightly, where fewer than n blocks lack it
    abbrev pub Reads : ℕ → (ℕ → Form → Got) → Type 0
    Reads n rec = (b : ℕ) (s : Form) (kp : ℕ → List ℕ) (op : Work) → b < g.blocks → Inv g E s kp op → Busy s op → lacks v s g.blocks < n → Read s op b (rec b s)

    pub record All (s : Form) (op : Work) (ps : List ℕ) (r : List ℕ × Form) : Type 0 where
      pub kp : ℕ → List ℕ
      pub inv : Inv g E r.1 kp op
      pub grow : Grow s r.1
      pub results : Results v r.1 ps r.0

    all_read : (n : ℕ) (rec : ℕ → Form → Got) → Reads n rec → (ps : List ℕ) (s : Form) (kp : ℕ → List ℕ) (op : Work)
        → ((p : ℕ) → In p ps → p < g.blocks) → Inv g E s kp op → Busy s op → lacks v s g.blocks < n → All s op ps (read_all rec ps s)
    all_read n rec R [] s kp op lt h k l = record { kp = kp; inv = h; grow = grow_refl s; results = tt }
    all_read n rec R (p ∷ ps) s kp op lt h k l =
        let one = R p s kp op (lt p (inl refl)) h k l in
        let s' = (rec p s).1 in
        let rest = all_read n rec R ps s' one.kp op (λ q i. lt q (inr i)) one.inv (busy_grow s s' op one.grow k) (le_trans (omega (arith, fewer v s s' (grow_somes s s' one.grow) g.blocks)) l) in
        let s'' = (read_all rec ps s').1 in
        record {
          kp = rest.kp;
          inv = rest.inv;
          grow = grow_trans s s' s'' one.grow rest.grow;
          results = ((one.o, def_grow s' s'' rest.grow v p one.o one.recorded, rest.grow.res (rec p s).0 one.o one.alike), rest.results);
        }

    -- marking a walk's blocks, from its end back
    pub record Marked (s₀ s : Form) (kp : ℕ → List ℕ) (op : Work) (b x : ℕ) (s' : Form) : Type 0 where
      pub inv : Inv g E s' kp op
      pub grow : Grow s s'
      pub here : def s' v b ≡ some x
      pub free : (c : ℕ) → def s₀ v c ≡ none → (e : ℕ) → s'.entry v c ≡ some e → e ≡ x

    -- a new parameter for v on c, where ws waits, which the block b records too
    pub record Begun (s : Form) (kp : ℕ → List ℕ) (op : Work) (b c : ℕ) (ws : Work)
        (s' : Form) : Type 0 where
      pub inv : Inv g E s' kp op
      pub grew : Grow s (grown g s v c ws)
      pub set : Grow (grown g s v c ws) s'
      pub grow : Grow s s'
      pub here : def s' v b ≡ some s.next
      pub there : def s' v c ≡ some s.next
      pub busy : Busy s' op

module _ (g : Graph) (G : Sound g) (v : ℕ) where
  pub walked : (n : ℕ) (s : Form) (seen : List ℕ) (b : ℕ) → b < g.blocks → def s v b ≡ none → Walked g v s b (walk n g s v seen b)
  walked zero s seen b l e = record { trail = refl; low = l; met = λ x q. absurd (some_none q refl); unmet = λ q. e }
  walked (suc n) s seen b l e = at (has b seen) (single g b) refl (λ p. walked n s (b ∷ seen) p)
    where
      halt : Walked g v s b (stop b)
      halt = record { trail = refl; low = l; met = λ x q. absurd (some_none q refl); unmet = λ q. e }

      at : (c : Bool) (q : Option ℕ) → single g b ≡ q
          → ((p : ℕ) → p < g.blocks → def s v p ≡ none → Walked g v s p (walk n g s v (b ∷ seen) p))
          → Walked g v s b (past (walk n g s v (b ∷ seen)) s v b c q)
      at true q u below = halt
      at false none u below = halt
      at false (some p) u below = to (def s v p) refl
        where
          lp : p < g.blocks
          lp = G.range b p (subst (λ (k : List ℕ). In p k) (sym (only_is (g.sealed b) (g.preds b) p u).1) (inl refl))

          to : (d : Option ℕ) → def s v p ≡ d → Walked g v s b (on_to (walk n g s v (b ∷ seen)) b p d)
          to (some x) q = record { trail = (refl, e, (p, u, refl)); low = lp; met = λ y i. q ∙ i; unmet = λ i. absurd (some_none refl i) }
          to none q = let w = below p lp q in record { trail = (refl, e, (p, u, w.trail)); low = w.low; met = w.met; unmet = w.unmet }

  pub filled : (E : Frame) (n : ℕ) (rec : ℕ → Form → Got) → Reads g v E n rec
      → (b x : ℕ) (ws : List (ℕ × ℕ)) (s : Form) (kp : ℕ → List ℕ) (op : Work)
      → g.sealed b ≡ true → op b ≡ (v, x) ∷ ws → Inv g E s kp op → Busy g v s op → lacks v s g.blocks < n
      → Settled g E s (put b ws op) x (fill rec g b x s)
  filled E n rec R b x ws s kp op seal at h k l =
      let all = all_read g v E n rec R (g.preds b) s kp op (λ p i. G.range b p i) h k l in
      let q = read_all rec (g.preds b) s in
      let done = settled g E q.1 all.kp op all.inv v b x ws seal at q.0 (results_length v q.1 (g.preds b) q.0 all.results) (λ _. all.results) (G.nodup b) in
      record { kp = done.kp; inv = done.inv; grow = grow_trans s q.1 (settle g b x q.0 q.1).1 all.grow done.grow; alike = done.alike }

module _ (g : Graph) (G : Sound g) (v : ℕ) (lv : v < length g.types) (E : Frame) where
  pub marked : (s₀ s : Form) (kp : ℕ → List ℕ) (op : Work) (x e : ℕ) → Inv g E s kp op
      → ((w c : ℕ) → s.own w c ≡ s₀.own w c)
      → ((c : ℕ) → def s₀ v c ≡ none → (u : ℕ) → s.entry v c ≡ some u → u ≡ x) → def s v e ≡ some x
      → (l : List ℕ) (b : ℕ) → Trail g v s₀ b l e → Marked g v E s₀ s kp op b x (mark v x l s)
  marked s₀ s kp op x e h own free at_end [] b tr = record { inv = h; grow = grow_refl s; here = ap (def s v) tr ∙ at_end; free = free }
  marked s₀ s kp op x e h own free at_end (c ∷ l) b tr =
      let p = tr.2.0 in
      let below = marked s₀ s kp op x e h own free at_end l p tr.2.2 in
      let s₁ = mark v x l s in
      let both = only_is (g.sealed c) (g.preds c) p tr.2.1 in
      let one = both.1 in
      let lc = G.inside c p (subst (λ (k : List ℕ). In p k) (sym one) (inl refl)) in
      let fr = below.free c tr.1 in
      let gr = mark_grow g E s₁ kp op below.inv v x c p fr both.0 one below.here lv lc in
      let bare : s₁.own v c ≡ none = below.grow.own v c ∙ own v c ∙ (or_none (s₀.own v c) (s₀.entry v c) tr.1).0 in
      record {
        inv = mark_inv g E s₁ kp op below.inv v x c p fr both.0 one below.here lv lc;
        grow = grow_trans s s₁ (mark_one v x c s₁) below.grow gr;
        here = ap (def (mark_one v x c s₁) v) tr.0 ∙ ap (λ (a : Option ℕ). or_else a (put₂ v c (some x) s₁.entry v c)) bare ∙ put₂_at v c (some x) s₁.entry v c refl refl;
        free = λ c' q u i. elim (same? c' c) [
          | inl k ↦ some_inj (sym i ∙ put₂_at v c (some x) s₁.entry v c' refl k)
          | inr n ↦ below.free c' q u (sym (put₂_other v c (some x) s₁.entry v c' (λ _. n)) ∙ i)
        ];
      }

  -- after a walk from b over the blocks `over` to c
  module _ (b : ℕ) (s : Form) (kp : ℕ → List ℕ) (op : Work) (h : Inv g E s kp op) (over : List ℕ) (c : ℕ)
      (tr : Trail g v s b over c) where
    unmarked : (d : ℕ) → def s v d ≡ none → s.entry v d ≡ none
    unmarked d q = (or_none (s.own v d) (s.entry v d) q).1

    -- it met x
    pub met_marked : (x : ℕ) → def s v c ≡ some x → Marked g v E s s kp op b x (mark v x over s)
    met_marked x e = marked s s kp op x c h (λ w d. refl) (λ d q u i. absurd (some_none i (unmarked d q))) e over b tr

    -- it met nothing: a parameter
    module _ (k : Busy g v s op) (low : c < g.blocks) (lack : def s v c ≡ none) where
      abbrev x : ℕ
      x = s.next

      -- with this waiting and these at work
      module _ (ws op' : Work) (elsewhere : (d : ℕ) → d ≢ c → cond (g.sealed d) (op' d) (ws d) ≡ pending g s op d)
          (there : cond (g.sealed c) (op' c) (ws c) ≡ pending g s op c ++ (v, s.next) ∷ []) where
        abbrev s₁ : Form
        s₁ = grown g s v c ws

        at_c : def s₁ v c ≡ some x
        at_c = ap (λ (a : Option ℕ). or_else a (put₂ v c (some x) s.entry v c)) (or_none (s.own v c) (s.entry v c) lack).0 ∙ put₂_at v c (some x) s.entry v c refl refl

        set_out : Marked g v E s s₁ kp op' b x (mark v x (before c over) s₁)
        set_out = marked s s₁ kp op' x c (grown_inv g E s kp op op' h v c ws (unmarked c lack) lv low elsewhere there) (λ w d. refl)
            (λ d q u i. elim (same? d c) [
              | inl j ↦ some_inj (sym i ∙ put₂_at v c (some x) s.entry v d refl j)
              | inr n ↦ absurd (some_none (sym (put₂_other v c (some x) s.entry v d (λ _. n)) ∙ i) (unmarked d q))
            ])
            at_c (before c over) b (trail_before g v s b c over tr)

        begun : ((s' : Form) → Grow s s' → s'.entry v c ≡ some x → Busy g v s' op')
            → Begun g v E s kp op' b c ws (mark v x (before c over) s₁)
        begun busy =
            let m = set_out in
            let s₂ = mark v x (before c over) s₁ in
            let grew = grown_grow g E s kp op op' h v c ws (unmarked c lack) lv low elsewhere there in
            let up = grow_trans s s₁ s₂ grew m.grow in
            record {
              inv = m.inv;
              grew = grew;
              set = m.grow;
              grow = up;
              here = m.here;
              there = def_grow s₁ s₂ m.grow v c x at_c;
              busy = busy s₂ up (m.grow.entry v c x (put₂_at v c (some x) s.entry v c refl refl));
            }

      -- that waits
      pub begun_waiting : g.sealed c ≡ false → Begun g v E s kp op b c (put c (s.pending c ++ (v, x) ∷ []) s.pending)
          (mark v x (before c over) (wait v c x (new_param g v c s)))
      begun_waiting e = begun (put c (s.pending c ++ (v, x) ∷ []) s.pending) op (λ d n. rw (put_other c (s.pending c ++ (v, x) ∷ []) s.pending d n))
          (rw e (put_same c (s.pending c ++ (v, x) ∷ []) s.pending)) (λ s' up _. busy_grow g v s s' op up k)

      -- that is at work
      pub begun_working : g.sealed c ≡ true → Begun g v E s kp (put c ((v, x) ∷ op c) op) b c s.pending (mark v x (before c over) (new_param g v c s))
      begun_working e = begun s.pending (put c ((v, x) ∷ op c) op) (λ d n. rw (put_other c ((v, x) ∷ op c) op d n)) (rw e (put_same c ((v, x) ∷ op c) op ∙ rw none_there))
          (λ s' up at d z. elim (same? d c) [
            | inl i ↦ inr (x, rw i at)
            | inr n ↦ ⊎_map (λ j. put_other c ((v, x) ∷ op c) op d n ∙ j) (λ j. j) (busy_grow g v s s' op up k d z)
          ])
        where
          none_there : op c ≡ []
          none_there = elim (k c e) [ inl q ↦ q | inr q ↦ absurd (some_none q.1 (unmarked c lack)) ]

      by_seal : (n : ℕ) (rec : ℕ → Form → Got) → Reads g v E n rec → lacks v s g.blocks < suc n → (z : Bool) → g.sealed c ≡ z
          → Read g v E s op b (begin rec g v c x (before c over) (new_param g v c s) z)
      by_seal n rec R l false e = let m = begun_waiting e in record { kp = kp; inv = m.inv; grow = m.grow; o = x; recorded = m.here; alike = refl }
      by_seal n rec R l true e =
          let m = begun_working e in
          let s₂ = mark v x (before c over) (new_param g v c s) in
          let fits : lacks v s₂ g.blocks < n = omega (arith, l, less v s s₂ (grow_somes s s₂ m.grow) c lack (x, m.there) g.blocks low) in
          let done = filled g G v E n rec R c x (op c) s₂ kp (put c ((v, x) ∷ op c) op) e (put_same c ((v, x) ∷ op c) op) m.inv m.busy fits in
          record {
            kp = done.kp;
            inv = subst (λ (f : Work). Inv g E (fill rec g c x s₂).1 done.kp f) (put_put c (op c) ((v, x) ∷ op c) op ∙ put_id c op) done.inv;
            grow = grow_trans s s₂ (fill rec g c x s₂).1 m.grow done.grow;
            o = x;
            recorded = def_grow s₂ (fill rec g c x s₂).1 done.grow v b x m.here;
            alike = done.alike;
          }

  pub reads : (n : ℕ) → Reads g v E n (read n g v)
  reads zero b s kp op lt h k l = absurd (not-suc-le-zero l)
  reads (suc n) b s kp op lt h k l = on (reads n) (def s v b) refl
    where
      on : Reads g v E n (read n g v) → (d : Option ℕ) → def s v b ≡ d → Read g v E s op b (read_on (read n g v) g v b s d)
      on R (some x) e = record { kp = kp; inv = h; grow = grow_refl s; o = x; recorded = e; alike = refl }
      on R none e =
          let w = walk (suc g.blocks) g s v [] b in
          let y = walked g G v (suc g.blocks) s [] b lt e in
          past R w.passed w.end w.met y
        where
          past : Reads g v E n (read n g v) → (over : List ℕ) (c : ℕ) (m : Option ℕ) → Walked g v s b (record { passed = over; end = c; met = m })
              → Read g v E s op b (read_past (read n g v) g v s over c m)
          past R over c (some x) y =
              let m = met_marked b s kp op h over c y.trail x (y.met x refl) in
              record { kp = kp; inv = m.inv; grow = m.grow; o = x; recorded = m.here; alike = refl }
          past R over c none y = by_seal b s kp op h over c y.trail k y.low (y.unmet refl) n (read n g v) R l (g.sealed c) refl
