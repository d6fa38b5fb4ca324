-- Fault 12 of a list of jobs (document 01, "Faults, in checking order").
--     lowest_hyper_edge, hyper_edge_lowest    hyper_edge_verdict gives the lowest job that 12 holds of, and back
--     none_hyper_edge, hyper_edge_none        it gives none where 12 holds of no job, and back
use Prim.Native.Nat.{ℕ, ◌<◌}
use mathlib.Core.Path.{◌≡◌, refl, sym, ◌∙◌}
use mathlib.Core.Bool.{Bool, true, false, cond}
use mathlib.Core.Logic.{inl, inr}
use mathlib.Core.List.{List}
use native.Mathlib.Omega.{arith}
use lib.ListN.{length}
use lib.Dec.{ltb}
use borrow.Author.Tests.{lt-ltb, le-ltb}
use Rattle.bools.proofs.BoolLaws.{split, tests}
use Rattle.sums.specs.Search.{least}
use Rattle.sums.proofs.SearchLaws.{least-found, least-none, least-holds, least-before}
use Rattle.fields.specs.declared.sheet.Head.{Head}
use Rattle.fields.specs.declared.sheet.Job.{Job}
use Rattle.fields.specs.declared.fault.Fault.{Fault}
use Rattle.fields.specs.declared.fault.Fault.TheVariants.{HeavyHyperEdge}
use Rattle.std.specs.Prelude.{Ok, Err}
use Rattle.fields.specs.Tests.{Verdict, heavy_hyper_edge_at, LowestHeavyHyperEdge, hyper_edge_verdict}

abbrev lowest_verdict : ℕ → (ℕ → Bool) → Verdict
lowest_verdict n f = cond (ltb (least n f) n) (Err (HeavyHyperEdge (least n f))) (Ok tt)

hyper_edge_verdict-least : (h : Head) (js : List Job) → hyper_edge_verdict h js ≡ lowest_verdict (length js) (heavy_hyper_edge_at h js)
unfolding hyper_edge_verdict
hyper_edge_verdict-least h js = refl

module _ (n : ℕ) (f : ℕ → Bool) where
  lowest_refused : (x : Fault) → lowest_verdict n f ≡ Err x → (least n f < n) × (x ≡ HeavyHyperEdge (least n f))
  lowest_refused x e = elim (split (ltb (least n f) n)) [
    | inl p ↦ (omega tests, cc)
    | inr p ↦ let z : ◌≡◌ {A = ℕ} 0 1 = cc in absurd (omega arith)
  ]

  lowest_accepted : lowest_verdict n f ≡ Ok tt → (i : ℕ) → i < n → f i ≡ false
  lowest_accepted e i l = elim (split (ltb (least n f) n)) [
    | inl p ↦ let z : ◌≡◌ {A = ℕ} 0 1 = cc in absurd (omega arith)
    | inr p ↦ least-before n f i (omega tests)
  ]

  lowest_found : (i : ℕ) → i < n → f i ≡ true → ((k : ℕ) → k < i → f k ≡ false) → lowest_verdict n f ≡ Err (HeavyHyperEdge i)
  lowest_found i l p q = rw (least-found n f i l p q, lt-ltb i n l)

  lowest_none : ((i : ℕ) → i < n → f i ≡ false) → lowest_verdict n f ≡ Ok tt
  lowest_none q = rw (least-none n f q, le-ltb n n (omega arith))

pub lowest_hyper_edge : (h : Head) (js : List Job) (f : Fault) → hyper_edge_verdict h js ≡ Err f
    → (n : ℕ) × (f ≡ HeavyHyperEdge n) × LowestHeavyHyperEdge h js n
lowest_hyper_edge h js f e =
    let s = heavy_hyper_edge_at h js in
    let r = lowest_refused (length js) s f (sym (hyper_edge_verdict-least h js) ∙ e) in
    (least (length js) s, r.1, record { is_job = r.0; is_heavy = least-holds (length js) s r.0; none_lower = least-before (length js) s })

pub hyper_edge_lowest : (h : Head) (js : List Job) (n : ℕ) → LowestHeavyHyperEdge h js n → hyper_edge_verdict h js ≡ Err (HeavyHyperEdge n)
hyper_edge_lowest h js n l =
    hyper_edge_verdict-least h js ∙ lowest_found (length js) (heavy_hyper_edge_at h js) n l.is_job l.is_heavy l.none_lower

pub none_hyper_edge : (h : Head) (js : List Job) → hyper_edge_verdict h js ≡ Ok tt → (n : ℕ) → n < length js → heavy_hyper_edge_at h js n ≡ false
none_hyper_edge h js e = lowest_accepted (length js) (heavy_hyper_edge_at h js) (sym (hyper_edge_verdict-least h js) ∙ e)

pub hyper_edge_none : (h : Head) (js : List Job) → ((n : ℕ) → n < length js → heavy_hyper_edge_at h js n ≡ false) → hyper_edge_verdict h js ≡ Ok tt
hyper_edge_none h js q = hyper_edge_verdict-least h js ∙ lowest_none (length js) (heavy_hyper_edge_at h js) q
