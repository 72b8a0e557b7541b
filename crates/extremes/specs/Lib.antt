pub mod Leads
pub mod First
