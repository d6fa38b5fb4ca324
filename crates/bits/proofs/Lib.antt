pub mod BitsLaws
pub mod BytesLaws
pub mod SetBits
pub mod LayoutLaws
pub mod LittleLaws
