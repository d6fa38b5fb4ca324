pub mod KeptRun
pub mod PushRun
pub mod ReceiverLaws
