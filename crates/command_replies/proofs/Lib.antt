pub mod MiniLaws
pub mod PitonTextLaws
