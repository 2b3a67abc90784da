pub mod PlainRecords
