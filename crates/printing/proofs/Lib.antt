pub mod InputText
pub mod SheetReplies
pub mod TextRoom
