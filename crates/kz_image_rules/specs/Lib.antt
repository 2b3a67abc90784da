pub mod QuotaKeys
