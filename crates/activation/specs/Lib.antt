pub mod ActivationArrays
