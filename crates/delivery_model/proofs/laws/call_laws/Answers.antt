use Rattle.std.proofs.Common.{◌∙◌, sym, ap}
use Rattle.world_model.specs.Halls.{session_of}
use Rattle.delivery_model.specs.BySession.{by_sessions}
use Rattle.delivery_model.specs.Calls.{due_staged, plan_does_call}
use Rattle.delivery_model.specs.Callers.{plan_of, plan_is}
use Rattle.delivery_model.specs.ChangedSessions.{finish_other}
use Rattle.delivery_model.proofs.laws.call_laws.Goals as goal

pub returns : goal.returns
returns c = record {
  due = due_staged;
  call = λ h moment n asked p o i. plan_does_call h moment o n asked p i;
  by_sessions = by_sessions;
  plans = λ h moment n asked o. (plan_of h moment n asked, plan_is h moment n asked o);
  touched = λ h moment n k asked p o i other unnamed. ap (λ g. session_of g k) (sym (plan_does_call h moment o n asked p i)) ∙ finish_other h moment n k p other unnamed;
}
