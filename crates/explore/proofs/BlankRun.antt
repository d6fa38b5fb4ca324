-- The tables before an exploration.
--     cleared     the tables, from what was put into each
use Prim.Native.Nat.{ℕ}
use mathlib.Core.Path.{◌≡◌, sym, ap, ◌∙◌}
use mathlib.Core.List.{List}
use lib.ListN.{length, get_or, replicate}
use Rattle.arrays.specs.Arrays.{plus_of, filled}
use Rattle.arrays.proofs.FilledLaws.{all_copied}
use Rattle.rocks.specs.declared.rocks.Limits.{Limits}
use Rattle.explore.specs.ExploreArrays.{Benchwise, Blank}

pub cleared : (n : Limits) (own dir load joined level dir' load' joined' level' : List ℕ) {never : ℕ} → length own ≡ 64
    → Benchwise dir load joined level → never ≡ plus_of n.benches 1
    → dir' ≡ replicate (length dir) 0 → load' ≡ filled (length load) (λ v. get_or own v 0) load
    → joined' ≡ replicate (length joined) never → level' ≡ replicate (length level) never
    → Blank n own dir' load' joined' level'
cleared n own dir load joined level dir' load' joined' level' {never} sized B en ed el ej ev =
    record {
      own_room = sized;
      undirected = ed ∙ ap (λ (k : ℕ). replicate k 0) B.dir_room;
      unloaded = all_copied own load load' el (sized ∙ sym B.load_room);
      never_joined = ej ∙ ap (λ (k : ℕ). replicate k never) B.joined_room ∙ ap (replicate 64) en;
      never_active = ev ∙ ap (λ (k : ℕ). replicate k never) B.level_room ∙ ap (replicate 64) en;
    }
