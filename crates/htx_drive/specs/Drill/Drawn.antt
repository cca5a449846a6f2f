-- What was drawn, in the words of a generated session.
use Rattle.htx_drive.specs.Drill.Plan as plans
use Rattle.htx_drive.specs.declared.drill.plan.Plan.{Plan}

abbrev pub plan : Plan → plans.Plan
plan drawn = record { fields = drawn.fields.items; request = drawn.request; response = drawn.response }
