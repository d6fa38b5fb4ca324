mod SheetRead
