-- The procedure for the least weight of a placement, in arrays.
--     price_in extra set v minutes  what a job costs on bench v
--     raise_of, relabel_of          what a label's benches cost more, and their new label, where two classes are joined
--     Job g i bay low high minutes  these are the ends and the minutes of the heavy job i, and the set
--     Listed g i bay minutes allowed    so they are where the job is heavy, by its minutes and allowed benches
--     Modest bay s                  the numbers of the classes s are small
--     Shows s bay c labels extra    the numbers c and the tables have the classes s
--     Tries t bay r labels extra    the classes r, if any, and the tables have what the jobs so far come to
--     Holds d bay jobs minutes allowed    the bay and the tables have a day without a long job
use Rattle.std.specs.Prelude.{ℕ, ◌≤◌, ◌<◌, ◌^◌, ◌≡◌, true, cond, List, eqb, length, get_or, Option, Some, None}
use Rattle.bits.specs.Bits.{is_set}
use Rattle.day.specs.Day.{Day}
use Rattle.algorithm.specs.SoundDay.{SoundDay}
use Rattle.arrays.specs.Arrays.{plus_of}
use Rattle.sets.specs.Sets.{lowest_of, highest_of}
use Rattle.start.specs.StartArrays.{heavy_of, Fields}
use Rattle.placements.specs.Classes.{Heavies, Classes as Benches, Tried, stuck, going}
use Rattle.placing.specs.declared.classes.Bay.{Bay}
use Rattle.placing.specs.declared.classes.Classes.{Classes}

abbrev pub price_in : List ℕ → ℕ → ℕ → ℕ → ℕ
price_in extra set v minutes = cond (is_set 64 set v) (plus_of (get_or extra v 0) minutes) (get_or extra v 0)

abbrev pub raise_of : ℕ → ℕ → ℕ → ℕ → ℕ → ℕ
raise_of low high by-low by_high label = cond (eqb label low) by-low (cond (eqb label high) by_high 0)

abbrev pub relabel_of : ℕ → ℕ → ℕ → ℕ
relabel_of low high label = cond (eqb label high) low label

pub record Job (g : Heavies) (i : ℕ) (bay : Bay) (low high minutes : ℕ) : Type 0 where
  pub few_benches : bay.benches ≤ 64
  pub low_is : low ≡ g.low i
  pub high_is : high ≡ g.high i
  pub low_below : low < bay.benches
  pub high_below : high < bay.benches
  pub minutes_are : minutes ≡ g.weight i
  pub minutes_small : minutes < 2 ^ 20
  pub set_is : (v : ℕ) → v < bay.benches → is_set 64 bay.set v ≡ g.inside v

pub record Listed (g : Heavies) (i : ℕ) (bay : Bay) (minutes allowed : ℕ) : Type 0 where
  pub heavy_is : heavy_of bay.p bay.q bay.target minutes ≡ g.heavy i
  pub its_ends : g.heavy i ≡ true → Job g i bay (lowest_of allowed) (highest_of allowed) minutes

-- So sums are exact.
pub record Modest (bay : Bay) (s : Benches) : Type 0 where
  pub extra_small : (v : ℕ) → v < bay.benches → s.extra v < 2 ^ 30
  pub base_small : s.base < 2 ^ 30

pub record Shows (s : Benches) (bay : Bay) (c : Classes) (labels extra : List ℕ) : Type 0 where
  pub labels_room : bay.benches ≤ length labels
  pub extra_room : bay.benches ≤ length extra
  pub labels_are : (v : ℕ) → v < bay.benches → get_or labels v 0 ≡ s.label v
  pub extra_are : (v : ℕ) → v < bay.benches → get_or extra v 0 ≡ s.extra v
  pub shut_are : (v : ℕ) → v < bay.benches → is_set 64 c.shut v ≡ s.shut v
  pub base_is : c.base ≡ s.base

pub record Tries (t : Tried) (bay : Bay) (r : Option Classes) (labels extra : List ℕ) : Type 0 where
  pub is_stuck : r ≡ None → t ≡ stuck
  pub is_going : (c : Classes) → r ≡ Some c → (s : Benches) × (t ≡ going s) × Shows s bay c labels extra

pub record Holds (d : Day) (bay : Bay) (jobs : ℕ) (minutes allowed : List ℕ) : Type 0 where
  pub sound : SoundDay d
  pub fields : Fields d jobs minutes allowed
  pub benches_are : bay.benches ≡ d.benches
  pub p_is : bay.p ≡ d.p
  pub q_is : bay.q ≡ d.q
  pub target_is : bay.target ≡ d.target
