-- The places of the jobs, and the peeling (StartRun); then the loads and the benches in reach (StartState), and the places
-- as bytes (PlaceLaws).
use Prim.Native.Nat.{ℕ, ◌≤◌}
use mathlib.Core.Path.{refl, ap, ◌∙◌}
use native.Mathlib.Omega.{arith}
use lib.ListN.{length, replicate, length-replicate}
use Rattle.algorithm.specs.Start.{start}
use Rattle.algorithm.specs.Run.{board_of}
use Rattle.loads.proofs.LoadLaws.{load_after}
use Rattle.start.proofs.StartRun.{start-placed}
use Rattle.run.proofs.PlaceLaws.{start-below, placed_copied}
use Rattle.run.proofs.StartState.{started_places, started_owned, started_pebbles}
use Rattle.run.proofs.state.State.start.Goals as goal

pub returns : goal.returns
returns g c =
    let n = c.args.n in
    let allowed = c.args.allowed.now in
    let rocks = c.args.left.now in
    let wide = length-replicate {A = ℕ} 512 0 in
    record {
      unexplored = refl;
      started = λ d minutes B room.
          let F = B.fields in
          let S = B.sparse_day in
          let sound = S.day_rocks.sound in
          let few = F.bounded.few_jobs in
          let P = start-placed d n.jobs minutes allowed (replicate 512 0) rocks F sound
          (omega (arith, room.left_room, few)) (omega (arith, wide, few)) S.rocky c.place_lowest.ensures
          (λ s Q. c.peel.ensures d s S.day_rocks S.rock_jobs S.cycles Q) in
          let fits : n.jobs ≤ length c.args.place.now = omega (arith, room.place_room, F.jobs_are, few) in
          let shown = placed_copied n.jobs _ _ fits
          (λ i h. omega (
            arith,
            P.places i (omega (arith, F.jobs_are)),
            start-below d sound i (omega (arith, F.jobs_are)),
            F.bounded.few_benches,
          ))
          c.from_numbers.ensures d _ _ F.jobs_are P in (
            record {
              held = started_places d n minutes allowed _ _ _ _ _ _ _ _ B _ _ shown;
              made = refl;
              own_room = c.own_loads.auto.own ∙ room.own_room;
              reach_room = c.fill_reach.auto.reach ∙ ap length room.unreached ∙ length-replicate {A = ℕ} 64 0;
              owned = started_owned d n minutes allowed _ _ _ _ _ _ _ _ B _ _ P room.own_room _
                  (load_after _ _ _ n.jobs _ c.own_loads.ensures);
              reaches = c.fill_reach.ensures (board_of d (start d)) F.jobs_are F.bounded.few_benches
                  (started_pebbles d n minutes allowed _ _ _ _ _ _ _ _ B _ _ P) room.unreached;
            },
            shown,
          );
    }
