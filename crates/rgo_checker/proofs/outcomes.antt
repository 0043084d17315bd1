-- There is one outcome: all rules are kept, or there is a first broken rule and line.
pub mod OneOutcome
pub mod Outcome
pub mod RuleOrder
pub mod RulesDecided
pub mod SomeOutcome
