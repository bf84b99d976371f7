-- A greater depth of reading, a longer walk and more links of a chain change nothing: two readings that are deep enough end where the machine does, a walk
-- never comes to more blocks than there are, and no chain is longer than there are aliases. Assumes nothing.
use Prim.Native.Nat.{ℕ, zero, suc, ◌+◌, ◌<◌, ◌≤◌}
use mathlib.Core.Path.{◌≡◌, refl, sym, ap, ◌∙◌}
use mathlib.Core.Logic.{inl, inr}
use mathlib.Core.Bool.{Bool, true, false}
use mathlib.Core.Option.{Option, none, some}
use mathlib.Core.List.{List, [], ◌∷◌}
use lib.ListN.{length, get_or}
use native.Mathlib.Omega.{arith}
use native.Mathlib.Nat.{le_trans, not-suc-le-zero}
use Rattle.definition.specs.Base.{has}
use Rattle.definition.specs.Form.{Graph, Form, def}
use Rattle.definition.specs.Read.{walk, depth, Got, read, fill, single, past, on_to, Walk}
use Rattle.meaning.specs.Enough.{Enough}
use Rattle.meaning.specs.Machine.{Conf, conf, schedule, look, finish, turns}
use Rattle.meaning.specs.Stored.{Nodup}
use Rattle.meaning.specs.Path.{In}
use Rattle.meaning.proofs.Reading.{Sound, only_is}
use Rattle.meaning.proofs.Alias.{Tree, follow_more}
use Rattle.meaning.proofs.Maps.{same?, false_true}
use Rattle.meaning.proofs.Heights.{Low, low_more, looks_left}
use Rattle.meaning.proofs.Machine.{Goes, does, fills}
use Rattle.meaning.proofs.Sums.{pigeon}
use Rattle.meaning.proofs.Fall.{left}
use Rattle.meaning.proofs.Sealing.{shallow}
use Rattle.meaning.proofs.Port.{goes_turns}
use Rattle.meaning.proofs.Lists.{has_in, in_cons}

module _ (g : Graph) (G : Sound g) where
  -- a walk that may pass one block more than there are, those seen before included
  walk_more : (n : ℕ) (s : Form) (v : ℕ) (seen : List ℕ) (b : ℕ) → Nodup seen → ((c : ℕ) → In c seen → c < g.blocks) → b < g.blocks
      → g.blocks < n + length seen
      → walk (suc n) g s v seen b ≡ walk n g s v seen b
  walk_more zero s v seen b d lt lb l = let k = pigeon some g.blocks seen d (λ c i. (c, lt c i, refl)) in absurd (omega (arith, k, l))
  walk_more (suc n) s v seen b d lt lb l = by (has b seen) refl (single g b) refl (walk_more n)
    where
      by : (z : Bool) → has b seen ≡ z → (q : Option ℕ) → single g b ≡ q
          → ((s : Form) (v : ℕ) (seen : List ℕ) (b : ℕ) → Nodup seen → ((c : ℕ) → In c seen → c < g.blocks) → b < g.blocks
          → g.blocks < n + length seen
          → walk (suc n) g s v seen b ≡ walk n g s v seen b)
          → past (walk (suc n) g s v (b ∷ seen)) s v b z q ≡ past (walk n g s v (b ∷ seen)) s v b z q
      by true e q u below = refl
      by false e none u below = refl
      by false e (some p) u below = to (def s v p)
        where
          lp : p < g.blocks
          lp = G.range b p (rw (only_is (g.sealed b) (g.preds b) p u).1 (inl refl))

          to : (d : Option ℕ) → on_to (walk (suc n) g s v (b ∷ seen)) b p d ≡ on_to (walk n g s v (b ∷ seen)) b p d
          to (some x) = refl
          to none = ap (λ (w : Walk). record { passed = b ∷ w.passed; end = w.end; met = w.met })
              (below s v (b ∷ seen) p (λ i. false_true e (has_in b seen i), d) (in_cons b seen lb lt) lp (omega (arith, l)))

  walks : (v b n : ℕ) (s : Form) → b < g.blocks → suc g.blocks ≤ n → walk n g s v [] b ≡ walk (suc g.blocks) g s v [] b
  walks v b zero s lb l = absurd (not-suc-le-zero l)
  walks v b (suc n) s lb l = elim (same? n g.blocks) [
    | inl e ↦ rw e
    | inr d ↦ walk_more n s v [] b tt (λ c i. absurd i) lb (omega arith) ∙ walks v b n s lb (omega arith)
  ]

  -- two runs from one start that end, end alike
  same_end : (v : ℕ) (c : Conf) (r q : Got) → Low g c.tasks → Goes g v c (conf [] (r.0 ∷ []) r.1) → Goes g v c (conf [] (q.0 ∷ []) q.1)
      → r ≡ q
  same_end v c r q low to_r to_q = ap (λ (d : Conf). (get_or d.results 0 0, d.form)) (sym (ends _ to_r refl) ∙ ends _ to_q refl)
    where
      held : ℕ
      held = length c.results + length c.tasks + looks_left g v c.form

      ends : (d : Conf) → Goes g v c d → d.tasks ≡ [] → turns (left g v c) g v c ≡ d
      ends d p e = goes_turns g G v p e (left g v c) held (left g v c) (record { low = low; calls = omega arith; both = omega arith }) (omega arith)

  reads : (v b n : ℕ) (s : Form) → b < g.blocks → depth g ≤ n → read n g v b s ≡ read (depth g) g v b s
  reads v b n s lb l = same_end v (conf (look b ∷ []) [] s) (read n g v b s) (read (depth g) g v b s) (lb, tt)
      (does g G v n b s lb (le_trans (shallow v s g) l) [] []) (does g G v (depth g) b s lb (shallow v s g) [] [])

  fills_alike : (v b x n : ℕ) (s : Form) → depth g ≤ n → fill (read n g v) g b x s ≡ fill (read (depth g) g v) g b x s
  fills_alike v b x n s l = same_end v (conf (schedule g x b []) [] s) (fill (read n g v) g b x s) (fill (read (depth g) g v) g b x s)
      (low_more g (g.preds b) (finish x b ∷ []) (λ p i. G.range b p i) tt) (fills g G v n b x s (le_trans (shallow v s g) l) [] []) (fills g G v (depth g) b x s (shallow v s g) [] [])

  pub enough_of : (s : Form) → Tree s.target s.next → Enough g s
  enough_of s t = record {
    reads = λ v b n lb l. reads v b n s lb l;
    fills = λ v b x n l. fills_alike v b x n s l;
    walks = λ v b n lb l. walks v b n s lb l;
    follows = λ x n l. follow_more s.target s.next n x t l;
  }
