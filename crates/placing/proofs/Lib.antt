pub mod Walking
pub mod Accounts
pub mod Standing
pub mod Pushing
