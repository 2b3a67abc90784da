-- What a store of a log answers a request.
use Rattle.std.specs.Prelude.{ℤ, ◌≡◌, Result, Ok, Err, ⊤}
use Rattle.kz_image.specs.declared.feed.Feed.{Feed}
use Rattle.kz_types.specs.declared.fault.LogFault.{LogFault}
use Rattle.kz_types.specs.declared.fault.LogFault.TheVariants as fault
use Rattle.kz_spec_data.specs.Log.{Log, Feed as FeedOf, end_of, reset, snapshot}
use Rattle.kz_log.specs.declared.store.Elected.{Elected}

-- the epoch and the last offset of a log
pub record IsElected (l : Log) (e : Elected) : Type 0 where
  pub epoch : e.epoch ≡ l.epoch
  pub end : e.end ≡ end_of l

-- a feed with the parts that are read
pub record IsFeed (read : FeedOf) (f : Feed) : Type 0 where
  pub base : f.base ≡ read.base
  pub batches : f.batches ≡ read.batches
  pub end : f.end ≡ read.end

-- nothing refuses a reset
abbrev pub made_by_reset : Log → Result Log LogFault
made_by_reset l = Ok (reset l)

-- nor a snapshot
abbrev pub made_by_snapshot : Log → ℤ → Result Log LogFault
made_by_snapshot l at = Ok (snapshot l at)

-- A fault that refuses a change is the one that the definition says. Of the other faults the store's disk tells.
abbrev pub IsRefusal : Result Log LogFault → LogFault → Type 0
IsRefusal said (fault.Stale epoch) = said ≡ Err (fault.Stale epoch)
IsRefusal said fault.Failed = ⊤
IsRefusal said (fault.Limit number) = said ≡ Err (fault.Limit number)
IsRefusal said fault.NoMemory = ⊤
IsRefusal said fault.Down = ⊤
IsRefusal said (fault.Full length) = ⊤
