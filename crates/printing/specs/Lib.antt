pub mod ExampleSheet
