pub mod CredentialLemmas
pub mod EntryLemmas
pub mod JsonLemmas
