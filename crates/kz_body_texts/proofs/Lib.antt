pub mod ConfigLemmas
pub mod Members
pub mod Plain
pub mod TextLemmas
pub mod TopicLemmas
pub mod WrittenLemmas
