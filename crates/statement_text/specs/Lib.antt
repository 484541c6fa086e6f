pub mod StatementData
pub mod StatementText
