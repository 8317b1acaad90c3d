-- What a channel has in transit as code holds it.
use Rattle.std.specs.Prelude.{◌≡◌, List, [], Option, Some, None, length}
use Rattle.model.specs.declared.Message.{Message}
use Rattle.model.specs.LowestStamp.{LowestStamp}
use Rattle.transit.specs.declared.Load.{Load}

pub data LoadOf (ms : List Message) : Option Load → Type 0 where
  empty : ms ≡ [] → LoadOf ms None
  messages : {load : Load} → load.count ≡ length ms → LowestStamp ms load.lowest → LoadOf ms (Some load)
