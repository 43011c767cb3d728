use Rattle.std.proofs.Common.{sym, ap}
use Rattle.world_model.specs.Refusals.{fault_reply}
use Rattle.geo_text.specs.declared.faults.GeoFault.{GeoFault}
use Rattle.world_model.specs.declared.faults.WordFault.TheVariants as fault
use Rattle.reply_text.proofs.refusals.geo_words.Goals as goal

pub returns-in-NotSpatial-clause-value : goal.returns-in-NotSpatial-clause-value
returns-in-NotSpatial-clause-value c = sym (ap (λ (f : GeoFault). fault_reply (fault.Geo f)) c.in-NotSpatial.is)

pub returns-in-NotWhole-clause-value : goal.returns-in-NotWhole-clause-value
returns-in-NotWhole-clause-value c = sym (ap (λ (f : GeoFault). fault_reply (fault.Geo f)) c.in-NotWhole.is)

pub returns-in-OutOfRange-clause-value : goal.returns-in-OutOfRange-clause-value
returns-in-OutOfRange-clause-value c = sym (ap (λ (f : GeoFault). fault_reply (fault.Geo f)) c.in-OutOfRange.is)

pub returns-in-BadRing-clause-value : goal.returns-in-BadRing-clause-value
returns-in-BadRing-clause-value c = sym (ap (λ (f : GeoFault). fault_reply (fault.Geo f)) c.in-BadRing.is)

pub returns-in-TooFew-clause-value : goal.returns-in-TooFew-clause-value
returns-in-TooFew-clause-value c = sym (ap (λ (f : GeoFault). fault_reply (fault.Geo f)) c.in-TooFew.is)

pub returns-in-TooMany-clause-value : goal.returns-in-TooMany-clause-value
returns-in-TooMany-clause-value c = sym (ap (λ (f : GeoFault). fault_reply (fault.Geo f)) c.in-TooMany.is)

pub returns-in-BadPosition-clause-value : goal.returns-in-BadPosition-clause-value
returns-in-BadPosition-clause-value c = sym (ap (λ (f : GeoFault). fault_reply (fault.Geo f)) c.in-BadPosition.is)
