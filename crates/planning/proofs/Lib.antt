pub mod WriteRun
pub mod SheetRun
