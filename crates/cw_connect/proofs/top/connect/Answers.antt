use Rattle.std.proofs.Common.{sym, ap, subst}
use Rattle.cw_lines.specs.Plays.{Played}
use Rattle.cw_model.specs.Facts.{AreFacts}
use Rattle.cw_model.specs.Grows.{Grows}
use Rattle.cw_model.specs.Journal.{IsTrueJournal}
use Rattle.cw_model.specs.Reopening.{reopened, stored_of}
use Rattle.cw_model.specs.Safe.{IsSafe}
use Rattle.cw_model.specs.State.{Cluster}
use Rattle.cw_connect.proofs.top.connect.Goals as goal

-- The lines that are driven leave the cluster that the run of these lines leaves, and that is reached from the first.

pub returns-clause-safe : goal.returns-clause-safe
returns-clause-safe g c = λ setting ran script lines names f.
    subst (λ (s : Cluster). IsSafe setting s) (sym (ap (λ (p : Played Cluster). p.store) (c.each_script_is_played_alike.ensures.lines setting lines script ran)))
    (c.what_is_reached_is_safe.ensures.safe setting ran.cluster _ (c.each_script_is_a_run.ensures.lines setting script lines ran.cluster names f) f)

pub returns-clause-journal : goal.returns-clause-journal
returns-clause-journal g c = λ setting ran script lines names f.
    subst (λ (s : Cluster). IsTrueJournal setting s) (sym (ap (λ (p : Played Cluster). p.store) (c.each_script_is_played_alike.ensures.lines setting lines script ran)))
    (c.what_is_reached_is_safe.ensures.journal setting ran.cluster _ (c.each_script_is_a_run.ensures.lines setting script lines ran.cluster names f) f)

pub returns-clause-facts : goal.returns-clause-facts
returns-clause-facts g c = λ setting ran script lines names f.
    subst (λ (s : Cluster). AreFacts setting s) (sym (ap (λ (p : Played Cluster). p.store) (c.each_script_is_played_alike.ensures.lines setting lines script ran)))
    (c.what_is_reached_is_safe.ensures.facts setting ran.cluster _ (c.each_script_is_a_run.ensures.lines setting script lines ran.cluster names f) f)

pub returns-clause-grows : goal.returns-clause-grows
returns-clause-grows g c = λ setting ran script lines names f.
    subst (λ (s : Cluster). Grows ran.cluster s) (sym (ap (λ (p : Played Cluster). p.store) (c.each_script_is_played_alike.ensures.lines setting lines script ran)))
    (c.what_is_reached_is_safe.ensures.grows setting ran.cluster _ (c.each_script_is_a_run.ensures.lines setting script lines ran.cluster names f) f)

pub returns-clause-amid : goal.returns-clause-amid
returns-clause-amid g c = λ setting number line ran left names f amid.
    c.what_is_reached_is_safe.ensures.safe setting ran.cluster left.cluster (c.each_line_on_its_way_is_a_run.ensures.amid setting number line ran left names f amid) f

pub returns-clause-amid_facts : goal.returns-clause-amid_facts
returns-clause-amid_facts g c = λ setting number line ran left names f amid.
    c.what_is_reached_is_safe.ensures.facts setting ran.cluster left.cluster (c.each_line_on_its_way_is_a_run.ensures.amid setting number line ran left names f amid) f

pub returns-clause-before_flight : goal.returns-clause-before_flight
returns-clause-before_flight g c = λ setting line directive ran at next names f is flight.
    c.what_is_reached_is_safe.ensures.facts setting ran.cluster at.cluster (c.what_is_in_flight_is_reached.ensures.before setting line directive ran at next names f is flight) f

pub returns-clause-behind_flight : goal.returns-clause-behind_flight
returns-clause-behind_flight g c = λ setting line directive ran at next names f is flight.
    c.what_is_reached_is_safe.ensures.facts setting ran.cluster next (c.what_is_in_flight_is_reached.ensures.behind setting line directive ran at next names f is flight) f

pub returns-clause-harmless : goal.returns-clause-harmless
returns-clause-harmless g c = λ setting s files at place harm facts stand.
    c.files_open_one_way.ensures.harm files (stored_of s) (reopened s) at place harm stand (c.written_logs_open_again.ensures.stand setting s facts)

pub returns-clause-reopens : goal.returns-clause-reopens
returns-clause-reopens g c = λ setting s t files other facts lists others stand.
    c.files_open_one_way.ensures.state files (stored_of s) other (reopened s) t lists (c.written_logs_open_again.ensures.stand setting s facts) others stand
