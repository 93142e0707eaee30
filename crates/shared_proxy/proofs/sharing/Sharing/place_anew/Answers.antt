use Rattle.shared_proxy.proofs.Placings.{ends_places, places_on}
use Rattle.shared_proxy.proofs.sharing.Sharing.place_anew.Goals as goal

pub returns-in-Some-New-clause-places : goal.returns-in-Some-New-clause-places
returns-in-Some-New-clause-places g c = places_on (ends_places c.end_earlier.ensures.ends) c.open.ensures.places
