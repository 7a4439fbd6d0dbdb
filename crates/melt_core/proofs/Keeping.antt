-- The one law of events: what each keeps.
use Rattle.melt_core.specs.Events.{EventKeeps}
use Rattle.melt_core.proofs.Evolving.{evolves_event}
use Rattle.melt_core.proofs.Owning.{regions_event}
use Rattle.melt_core.proofs.Holding.{holds_event}
use Rattle.melt_core.proofs.Legality.{legal_event}

pub event_keeps : EventKeeps
event_keeps told thread h maps new s t mine cleared act legal holds event = record {
  holds = holds_event told thread h maps new s t mine cleared act holds legal event;
  legal = legal_event told thread h maps new s t mine cleared act holds legal event;
  evolves = evolves_event told h maps new s t mine cleared act holds.formed event;
  regions = regions_event told h maps new s t mine cleared act holds.formed event;
}
