pub mod ExploreArrays
