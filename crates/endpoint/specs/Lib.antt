pub mod Ends
pub mod Orders
pub mod Hearing
pub mod Sealing
pub mod KeyCalls
pub mod SessionCalls
pub mod Rules
pub mod Views
