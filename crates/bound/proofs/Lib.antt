pub mod BoundCallLaws
pub mod FigureLaws
