pub mod RulesLaws
