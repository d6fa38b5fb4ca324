-- The arrays of the program's sheet, entry by entry.
--     get_or-padded    an entry below the jobs is the job's
--     set-padded       one store at the end of the jobs adds a job
--     length-padded    there are 512 entries
--     table-padded     the jobs that the two arrays give are the jobs
use Prim.Native.Nat.{ℕ, suc, ◌-◌, ◌≤◌, ◌<◌}
use mathlib.Core.Path.{◌≡◌, sym, ap, ap₂, subst, ◌∙◌}
use mathlib.Core.List.{List, [], ◌∷◌, ◌++◌, map, map-append}
use native.Mathlib.Omega.{arith}
use lib.ListN.{length, get_or, set, replicate, length-map, length-append, length-replicate, get_or-append, get_or-map}
use lib.Seq.{set_at, append_snoc}
use Rattle.sums.proofs.TableLaws.{table_cong, table-get_or, get_or-there}
use Rattle.fields.specs.declared.sheet.Job.{Job}
use Rattle.fields.specs.Tests.{no_minutes, job_table, job_at, no_job}
use Rattle.frame.specs.Reading.{padded}

module _ (f : Job → ℕ) (js : List Job) where
  pub get_or-padded : (n d : ℕ) → n < length js → get_or (padded (map f js)) n d ≡ f (job_at js n)
  get_or-padded n d h =
      let inside : n < length (map f js) = subst (λ (k : ℕ). n < k) (sym (length-map js f)) h in
      get_or-append (map f js) _ d n inside
      ∙ get_or-there (map f js) n d (f no_job) inside
      ∙ get_or-map f js n no_job

  -- One store at the end of the jobs adds a job.
  pub set-padded : (j : Job) → length js < 512 → set (padded (map f js)) (length js) (f j) ≡ padded (map f (js ++ (j ∷ [])))
  set-padded j h =
      let k : ℕ = 511 - length js in
      let here : 512 - length (map f js) ≡ suc k = rw length-map (omega arith) in
      let there : 512 - length (map f (js ++ (j ∷ []))) ≡ k = rw (length-map, length-append) (omega arith) in
      ap (λ (n : ℕ). set (map f js ++ replicate n 0) (length js) (f j)) here
      ∙ set_at (map f js) 0 (replicate k 0) (f j) (length js) (length-map js f)
      ∙ sym (append_snoc (map f js) (f j) (replicate k 0))
      ∙ ap₂ (λ (xs ys : List ℕ). xs ++ ys) (sym (map-append f js (j ∷ []))) (ap (λ (n : ℕ). replicate n 0) (sym there))

pub length-padded : (xs : List ℕ) → length xs ≤ 512 → length (padded xs) ≡ 512
length-padded xs h = rw (length-append, length-replicate) (omega arith)

pub table-padded : (js : List Job) → job_table (length js) (padded (map (λ j. j.minutes) js)) (padded (map (λ j. j.allowed) js)) ≡ js
table-padded js =
    table_cong (length js) _ (job_at js)
    (λ n h. ap₂ (λ (m a : ℕ). record { minutes = m; allowed = a })
    (get_or-padded (λ j. j.minutes) js n no_minutes h) (get_or-padded (λ j. j.allowed) js n 0 h))
    ∙ table-get_or js no_job
