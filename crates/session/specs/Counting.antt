-- How far one plane has come. Assumes nothing.
use Rattle.std.specs.Prelude.{ℕ, ◌+◌, ◌-◌, min, Ok, Result, nat_le, nat_lt}
use Rattle.refusal.specs.declared.Fault.{Fault}
use Rattle.refusal.specs.declared.Refusal.TheVariants.{CounterNotAbove, CounterBeyondLeap, CountersUsedUp}
use Rattle.refusal.specs.Refusals.{fault_at}
use Rattle.refusal.specs.Tests.{need}
use Rattle.session.specs.declared.counters.Counters.{Counters}

abbrev pub last_counter : ℕ
last_counter = 4294967295

abbrev pub new_counters : Counters
new_counters = record { last_sealed = 0; last_accepted = 0; accepted = 0 }

-- above the last accepted, and by at most the leap; a counter stands at place 1 of a message
abbrev pub admitted : Counters → ℕ → ℕ → Result (Unit {0}) Fault
admitted c n leap =
    need (nat_lt c.last_accepted n) (fault_at CounterNotAbove 1)
    (need (nat_le (n - c.last_accepted) leap) (fault_at CounterBeyondLeap 1)
    (Ok tt))

-- one more was accepted; the number stops at the last counter, which it never passes where the rules are kept
abbrev pub counted : Counters → ℕ → Counters
counted c n = record { last_sealed = c.last_sealed; last_accepted = n; accepted = min (c.accepted + 1) last_counter }

abbrev pub next_counter : Counters → Result ℕ Fault
next_counter c = need (nat_lt c.last_sealed last_counter) (fault_at CountersUsedUp 0) (Ok (c.last_sealed + 1))

abbrev pub sealed_up_to : Counters → ℕ → Counters
sealed_up_to c n = record { last_sealed = n; last_accepted = c.last_accepted; accepted = c.accepted }

-- 0 where more were accepted than counters went by, which the rules exclude
abbrev pub missed_of : Counters → ℕ
missed_of c = c.last_accepted - c.accepted
